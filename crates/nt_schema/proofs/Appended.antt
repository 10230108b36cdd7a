-- Bytes that are appended one behind the other, and rows in two pieces.
use Rattle.std.proofs.Math.Seq.{drop-cons}
use Rattle.std.proofs.Math.ListN.{get_or}
use Rattle.nt_grammar.specs.declared.rows.FieldRow.{FieldRow}
use Rattle.nt_grammar.specs.declared.rows.ColumnRow.{ColumnRow}
use Rattle.nt_grammar.specs.Writing.{field_record, field_records, column_record, column_records}
use Rattle.std.proofs.Common.{ℕ, suc, ◌+◌, ◌<◌, length, drop, add-one, ◌≡◌, List, [], ◌∷◌, ◌++◌, None, Some, ◌∙◌, sym, ap, append_assoc}
use Rattle.std.proofs.Common.{Bool, true, take, ◌&&◌, arith}
use Rattle.nt_frame.specs.Writing.{Written, Begun, bytes_added, frame_begun, frame_finished}
use Rattle.nt_format.specs.Frames.{record_frame, list_frame}
use Rattle.std.specs.List.{list_all}
use Rattle.std.proofs.lemmas.List.{take-append-drop}
use Rattle.std.proofs.lemmas.List.Folds.{list_all-append}

written : List Begun → List ℕ → Written
written frames inside = record { inside = inside; frames = frames }

two : (a b : List ℕ) (w : Written) → bytes_added b (bytes_added a w) ≡ bytes_added (a ++ b) w
unfolding written
two a b w = ap (written w.frames) (append_assoc w.inside a b)

pub four : (a b c d : List ℕ) (v w x y z : Written) → w ≡ bytes_added a v → x ≡ bytes_added b w → y ≡ bytes_added c x → z ≡ bytes_added d y
    → z ≡ bytes_added (a ++ (b ++ (c ++ d))) v
four a b c d v w x y z e f g h =
    h ∙ (ap (bytes_added d) g ∙ (two c d x ∙ (ap (bytes_added (c ++ d)) f
    ∙ (two b (c ++ d) w ∙ (ap (bytes_added (b ++ (c ++ d))) e ∙ two a (b ++ (c ++ d)) v)))))

pub five : (a b c d e : List ℕ) (u v w x y z : Written) → v ≡ bytes_added a u → w ≡ bytes_added b v → x ≡ bytes_added c w
    → y ≡ bytes_added d x
    → z ≡ bytes_added e y
    → z ≡ bytes_added (a ++ (b ++ (c ++ (d ++ e)))) u
five a b c d e u v w x y z f g h i j =
    four b c d e v w x y z g h i j ∙ (ap (bytes_added (b ++ (c ++ (d ++ e)))) f ∙ two a (b ++ (c ++ (d ++ e))) u)

-- a record frame is begun, gets two pieces, and is finished
pub record_of : (a b : List ℕ) (v w x y z : Written) → w ≡ frame_begun None v → x ≡ bytes_added a w → y ≡ bytes_added b x
    → z ≡ frame_finished y
    → z ≡ bytes_added (record_frame (a ++ b)) v
record_of a b v w x y z e f g h =
    h ∙ ap frame_finished (g ∙ (ap (bytes_added b) f ∙ (two a b w ∙ ap (bytes_added (a ++ b)) e)))

one_more : (part rest all : List ℕ) (w x v : Written) → x ≡ bytes_added part w → bytes_added (part ++ rest) w ≡ bytes_added all v
    → bytes_added rest x ≡ bytes_added all v
one_more part rest all w x v e f = ap (bytes_added rest) e ∙ (two part rest w ∙ f)

-- the record of the next field is written
pub fields-next : (rows : List FieldRow) (i : ℕ) (r : FieldRow) (w x v : Written) → i < length rows → r ≡ get_or rows i r
    → x ≡ bytes_added (field_record r) w
    → bytes_added (field_records (drop i rows)) w ≡ bytes_added (field_records rows) v
    → bytes_added (field_records (drop (i + 1) rows)) x ≡ bytes_added (field_records rows) v
fields-next rows i r w x v h is e f =
    let left : drop i rows ≡ r ∷ drop (i + 1) rows = drop-cons rows i r h
    ∙ (ap (λ (z : FieldRow). z ∷ drop (suc i) rows) (sym is) ∙ ap (λ (k : ℕ). r ∷ drop k rows) (sym (add-one i))) in
    one_more (field_record r) (field_records (drop (i + 1) rows)) (field_records rows) w x v e
    (ap (λ (z : List FieldRow). bytes_added (field_records z) w) (sym left) ∙ f)

-- the record of the next column is written
pub columns-next : (rows : List ColumnRow) (i : ℕ) (r : ColumnRow) (w x v : Written) → i < length rows
    → x ≡ bytes_added (column_record (get_or rows i r)) w
    → bytes_added (column_records (drop i rows)) w ≡ bytes_added (column_records rows) v
    → bytes_added (column_records (drop (i + 1) rows)) x ≡ bytes_added (column_records rows) v
columns-next rows i r w x v h e f =
    let left : drop i rows ≡ get_or rows i r ∷ drop (i + 1) rows = drop-cons rows i r h
    ∙ ap (λ (k : ℕ). get_or rows i r ∷ drop k rows) (sym (add-one i)) in
    one_more (column_record (get_or rows i r)) (column_records (drop (i + 1) rows)) (column_records rows) w x v e
    (ap (λ (z : List ColumnRow). bytes_added (column_records z) w) (sym left) ∙ f)

-- a list frame is begun, gets its items, and is finished
pub list_of : (n : ℕ) (a : List ℕ) (v w x y : Written) → w ≡ frame_begun (Some n) v → x ≡ bytes_added a w → y ≡ frame_finished x
    → y ≡ bytes_added (list_frame n a) v
list_of n a v w x y e f g = g ∙ ap frame_finished (f ∙ ap (bytes_added a) e)

pub empty_list : (v w x : Written) → w ≡ frame_begun (Some 0) v → x ≡ frame_finished w → x ≡ bytes_added (list_frame 0 []) v
empty_list v w x e f = f ∙ ap frame_finished e

both : (a b : Bool) → (a && b) ≡ true → (a ≡ true) × (b ≡ true)
both a b h = grind (arith, h)

pub list_all_split : {X : Type 0} (p : X → Bool) (xs : List X) (n : ℕ) → list_all p xs ≡ true
    → (list_all p (take n xs) ≡ true) × (list_all p (drop n xs) ≡ true)
list_all_split p xs n h = both (list_all p (take n xs)) (list_all p (drop n xs))
    (sym (list_all-append p (take n xs) (drop n xs)) ∙ (ap (list_all p) (take-append-drop n xs) ∙ h))
