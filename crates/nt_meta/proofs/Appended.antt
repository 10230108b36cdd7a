-- Bytes that are written one behind the other.
use Rattle.std.proofs.Common.{ℕ, suc, ◌+◌, ◌-◌, ◌<◌, ◌≤◌, length, drop, flat_map, map, add-one, ◌≡◌, List, [], ◌∷◌, ◌++◌, None, Some, ◌∙◌}
use Rattle.std.proofs.Common.{sym, ap, subst, append_assoc, arith}
use Rattle.std.specs.Prelude.{slice_index_or}
use Rattle.std.specs.List.{range_with_len, AllByRecursion}
use Rattle.std.proofs.lemmas.List.FromFn.{length-map-range_with_len}
use Rattle.std.proofs.lemmas.List.{append-nil}
use Rattle.std.proofs.Math.Seq.{drop-cons}
use Rattle.std.proofs.Math.ListN.{get_or}
use Rattle.nt_format.specs.Frames.{record_frame, list_frame}
use Rattle.nt_frame.specs.Writing.{Written, Begun, bytes_added, frame_begun, frame_finished}
use Rattle.nt_book.specs.declared.meta.PageMeta.{PageMeta}
use Rattle.nt_book.specs.Books.{BookData, cluster_at, column_offset}
use Rattle.nt_pagelists.specs.Writing.{column_list_text, column_list_texts, cluster_list_text}
use Rattle.nt_pagelists.specs.Books.{page_item, listed_column, listed_cluster}

written : List Begun → List ℕ → Written
written frames inside = record { inside = inside; frames = frames }

two : (a b : List ℕ) (w : Written) → bytes_added b (bytes_added a w) ≡ bytes_added (a ++ b) w
unfolding written
two a b w = ap (written w.frames) (append_assoc w.inside a b)

pub two_parts : (a b : List ℕ) (v w x : Written) → w ≡ bytes_added a v → x ≡ bytes_added b w → x ≡ bytes_added (a ++ b) v
two_parts a b v w x e f = f ∙ (ap (bytes_added b) e ∙ two a b v)

pub three : (a b c : List ℕ) (v w x y : Written) → w ≡ bytes_added a v → x ≡ bytes_added b w → y ≡ bytes_added c x
    → y ≡ bytes_added (a ++ (b ++ c)) v
three a b c v w x y e f g = two_parts a (b ++ c) v w y e (two_parts b c w x y f g)

pub four : (a b c d : List ℕ) (v w x y z : Written) → w ≡ bytes_added a v → x ≡ bytes_added b w → y ≡ bytes_added c x → z ≡ bytes_added d y
    → z ≡ bytes_added (a ++ (b ++ (c ++ d))) v
four a b c d v w x y z e f g h = two_parts a (b ++ (c ++ d)) v w z e (three b c d w x y z f g h)

pub five : (a b c d e : List ℕ) (u v w x y z : Written) → v ≡ bytes_added a u → w ≡ bytes_added b v → x ≡ bytes_added c w
    → y ≡ bytes_added d x
    → z ≡ bytes_added e y → z ≡ bytes_added (a ++ (b ++ (c ++ (d ++ e)))) u
five a b c d e u v w x y z f g h i j = two_parts a (b ++ (c ++ (d ++ e))) u v z f (four b c d e v w x y z g h i j)

-- nothing is written
pub nothing : (w : Written) → w ≡ bytes_added [] w
unfolding written
nothing w = sym (ap (written w.frames) (append-nil w.inside))

-- a record frame is begun, gets its inside, and is finished
pub record_whole : (a : List ℕ) (v w x y : Written) → w ≡ frame_begun None v → x ≡ bytes_added a w → y ≡ frame_finished x
    → y ≡ bytes_added (record_frame a) v
record_whole a v w x y e f g = g ∙ ap frame_finished (f ∙ ap (bytes_added a) e)

-- the same with two parts inside
pub record_of : (a b : List ℕ) (v w x y z : Written) → w ≡ frame_begun None v → x ≡ bytes_added a w → y ≡ bytes_added b x
    → z ≡ frame_finished y
    → z ≡ bytes_added (record_frame (a ++ b)) v
record_of a b v w x y z e f g h = record_whole (a ++ b) v w y z e (two_parts a b w x y f g) h

-- a list frame is begun, gets its items, and is finished
pub list_of : (n : ℕ) (a : List ℕ) (v w x y : Written) → w ≡ frame_begun (Some n) v → x ≡ bytes_added a w → y ≡ frame_finished x
    → y ≡ bytes_added (list_frame n a) v
list_of n a v w x y e f g = g ∙ ap frame_finished (f ∙ ap (bytes_added a) e)

-- the same with two parts inside
pub list_of_two : (n : ℕ) (a b : List ℕ) (v w x y z : Written) → w ≡ frame_begun (Some n) v → x ≡ bytes_added a w
    → y ≡ bytes_added b x → z ≡ frame_finished y
    → z ≡ bytes_added (list_frame n (a ++ b)) v
list_of_two n a b v w x y z e f g h = list_of n (a ++ b) v w y z e (two_parts a b w x y f g) h

one_more : (part rest : List ℕ) (w x all : Written) → x ≡ bytes_added part w → bytes_added (part ++ rest) w ≡ all → bytes_added rest x ≡ all
one_more part rest w x all e f = ap (bytes_added rest) e ∙ (two part rest w ∙ f)

-- the text of the next one is written
pub texts-next : {X : Type 0} (text : X → List ℕ) (xs : List X) (i : ℕ) (d : X) (w x all : Written) → i < length xs
    → x ≡ bytes_added (text (get_or xs i d)) w
    → bytes_added (flat_map text (drop i xs)) w ≡ all → bytes_added (flat_map text (drop (i + 1) xs)) x ≡ all
texts-next {X = X} text xs i d w x all h e f =
    let left : drop i xs ≡ get_or xs i d ∷ drop (i + 1) xs =
    drop-cons xs i d h ∙ ap (λ (k : ℕ). get_or xs i d ∷ drop k xs) (sym (add-one i)) in
    one_more (text (get_or xs i d)) (flat_map text (drop (i + 1) xs)) w x all e
    (ap (λ (z : List X). bytes_added (flat_map text z) w) (sym left) ∙ f)

-- the same of what is made of each
pub made-next : {X Y : Type 0} (make : X → Y) (text : Y → List ℕ) (xs : List X) (i : ℕ) (d : X) (w x all : Written) → i < length xs
    → x ≡ bytes_added (text (make (get_or xs i d))) w
    → bytes_added (flat_map text (map make (drop i xs))) w ≡ all → bytes_added (flat_map text (map make (drop (i + 1) xs))) x ≡ all
made-next {X = X} make text xs i d w x all h e f =
    let left : drop i xs ≡ get_or xs i d ∷ drop (i + 1) xs =
    drop-cons xs i d h ∙ ap (λ (k : ℕ). get_or xs i d ∷ drop k xs) (sym (add-one i)) in
    one_more (text (make (get_or xs i d))) (flat_map text (map make (drop (i + 1) xs))) w x all e
    (ap (λ (z : List X). bytes_added (flat_map text (map make z)) w) (sym left) ∙ f)

one_less : (n i : ℕ) → i < n → n - i ≡ suc (n - (i + 1))
one_less n i lt = omega arith

-- the text of what is made of the next number is written
pub counted-next : {Y : Type 0} (make : ℕ → Y) (text : Y → List ℕ) (n i : ℕ) (w x all : Written) → i < n → x ≡ bytes_added (text (make i)) w
    → bytes_added (flat_map text (map make (range_with_len i (n - i)))) w
    ≡ all → bytes_added (flat_map text (map make (range_with_len (i + 1) (n - (i + 1))))) x ≡ all
counted-next make text n i w x all h e f =
    one_more (text (make i)) (flat_map text (map make (range_with_len (i + 1) (n - (i + 1))))) w x all e
    (ap (λ (k : ℕ). bytes_added (flat_map text (map make (range_with_len i k))) w) (sym (one_less n i h)) ∙ f)

-- none is left
pub counted-done : {Y : Type 0} (make : ℕ → Y) (text : Y → List ℕ) (n i : ℕ) (w all : Written) → n ≤ i
    → bytes_added (flat_map text (map make (range_with_len i (n - i)))) w ≡ all → w ≡ all
counted-done make text n i w all h f =
    let none : n - i ≡ 0 = omega arith in
    nothing w ∙ (ap (λ (k : ℕ). bytes_added (flat_map text (map make (range_with_len i k))) w) (sym none) ∙ f)

-- what holds of all that are left holds of those behind the next one
pub all-next : {X : Type 0} (P : X → Type 0) (xs : List X) (i : ℕ) (d : X) → i < length xs → AllByRecursion P (drop i xs)
    → AllByRecursion P (drop (i + 1) xs)
all-next {X = X} P xs i d h all =
    let left : drop i xs ≡ get_or xs i d ∷ drop (i + 1) xs =
    drop-cons xs i d h ∙ ap (λ (k : ℕ). get_or xs i d ∷ drop k xs) (sym (add-one i)) in
    (subst (AllByRecursion P) left all).1

pub all-first : {X : Type 0} (P : X → Type 0) (xs : List X) (i : ℕ) (d : X) → i < length xs → AllByRecursion P (drop i xs)
    → P (get_or xs i d)
all-first {X = X} P xs i d h all = (subst (AllByRecursion P) (drop-cons xs i d h) all).0

-- a cluster's columns, counted by its lists
pub listed-length : (book : BookData) (k : ℕ) (lists : List (List PageMeta)) (v w : Written) → lists ≡ (cluster_at book k).meta.pages
    → w ≡ bytes_added (list_frame (length lists) (column_list_texts (map (listed_column book k) (range_with_len 0 (length lists))))) v
    → w ≡ bytes_added (cluster_list_text (listed_cluster book k)) v
listed-length book k lists v w is e =
    let count : length lists ≡ length (cluster_at book k).meta.pages = ap length is in
    let long : length lists ≡ length (listed_cluster book k).columns =
    count ∙ sym (length-map-range_with_len (listed_column book k) 0 (length (cluster_at book k).meta.pages)) in
    e ∙ (ap (λ (n : ℕ). bytes_added (list_frame (length lists)
    (column_list_texts (map (listed_column book k) (range_with_len 0 n)))) v) count
    ∙ ap (λ (n : ℕ). bytes_added (list_frame n (column_list_texts (listed_cluster book k).columns)) v) long)

-- a column of a cluster, by what the book tells of it
pub column-is : (book : BookData) (k id payload offset : ℕ) (pages : List PageMeta) (v w : Written) → offset ≡ column_offset book k id
    → payload ≡ (cluster_at book k).start + 42 → pages ≡ slice_index_or (cluster_at book k).meta.pages id []
    → w ≡ bytes_added (column_list_text (record { offset = offset; pages = map (page_item payload) pages })) v
    → w ≡ bytes_added (column_list_text (listed_column book k id)) v
column-is book k id payload offset pages v w o begins is e =
    e ∙ (ap (λ (n : ℕ). bytes_added (column_list_text (record { offset = n; pages = map (page_item payload) pages })) v) o
    ∙ (ap (λ (n : ℕ). bytes_added (column_list_text (record { offset = column_offset book k id; pages = map (page_item n) pages }))
    v) begins
    ∙ ap (λ (l : List PageMeta). bytes_added (column_list_text (record {
      offset = column_offset book k id;
      pages = map (page_item ((cluster_at book k).start + 42)) l;
    })) v) is))

-- the bytes of a part that is written alone
pub all_of : (a bytes none : List ℕ) (w x : Written) → none ≡ [] → w ≡ record { inside = none; frames = [] } → x ≡ bytes_added a w
    → bytes ≡ x.inside → bytes ≡ a
all_of a bytes none w x zero_is e f g = g ∙ (ap (λ (o : Written). o.inside) f
    ∙ (ap (λ (o : Written). o.inside ++ a) e ∙ ap (λ (l : List ℕ). l ++ a) zero_is))

pub ruleset counted_steps = (counted-next, counted-done)

pub ruleset text_steps = (texts-next)

pub ruleset made_steps = (made-next)
