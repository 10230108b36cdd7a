-- What is read of a line fits the fields that it was read by.
use Rattle.std.proofs.Common.{◌≡◌, ℕ, zero, suc, Bool, true, false, List, length, Option, Some, None, Ok, Err, ℤ, refl, ap, subst}
use Rattle.std.specs.Prelude.{option_map, option_and_then, ◌&&◌, ◌||◌, ◌==◌, nat_lt, if◌then◌else◌}
use Rattle.std.specs.Str.{is_utf8}
use Rattle.serde_json.specs.Data.{Data, null, boolean, number, string, array, object, Items, no_items, item}
use Rattle.serde_json.specs.Events.{items_len}
use Rattle.serde_json.specs.Find.{as_bool, as_number, as_array, as_integer}
use Rattle.serde_json.specs.Read.{read}
use Rattle.nt_types.specs.ShapeData.{ShapeData, ShapesData, MembersData, no_kinds, kind, no_parts, part}
use Rattle.nt_types.specs.ShapeData as kinds
use Rattle.nt_types.specs.TreeData.{TreeData, TreesData, flag, num, text, items, parts, pick, nothing, no_trees, tree, is_nothing}
use Rattle.nt_types.specs.Fits.{is_int, all_trees, fits_flag, fits_number, fits_text, fits_items, fits_parts, fits_pick, fits_next}
use Rattle.nt_types.specs.Fits.{are_no_trees, fits, fit_parts, fit_kinds, fits_one}
use Rattle.nt_event.specs.declared.fault.TextKind.TheVariants.{TooLong, NotJson, Count}
use Rattle.nt_event.specs.Limits.{max_line}
use Rattle.nt_event.specs.Line.{text_read, int_if, int_read, all_read, next_read, none_read, tag_read, pick_read, choice_read, array_read}
use Rattle.nt_event.specs.Line.{maybe_read, tree_read, parts_read, kinds_read, one_read}
use Rattle.nt_event.specs.Entry.{parts_len, or_misfit, json_entry, entry_of}

-- what is made of something that is there
record Made {A B : Type 0} (o : Option A) (f : A → B) (y : B) : Type 0 where
  from : A
  is : o ≡ Some from
  made : f from ≡ y

made_of : {A B : Type 0} (o : Option A) (f : A → B) (y : B) → option_map f o ≡ Some y → Made o f y
made_of None f y h = cc
made_of (Some x) f y h = record { from = x; is = refl; made = cc }

-- what follows from something that is there
record Then {A B : Type 0} (o : Option A) (f : A → Option B) (y : B) : Type 0 where
  from : A
  is : o ≡ Some from
  then_is : f from ≡ Some y

then_of : {A B : Type 0} (o : Option A) (f : A → Option B) (y : B) → option_and_then f o ≡ Some y → Then o f y
then_of None f y h = cc
then_of (Some x) f y h = record { from = x; is = refl; then_is = h }

both : (a b : Bool) → a ≡ true → b ≡ true → (a && b) ≡ true
both true b h k = k
both false b h k = cc

int_fits : (f : ℤ → Bool) (d : Data) (t : TreeData) → int_read f d ≡ Some t → fits_number f t ≡ true
int_fits f d t h =
    let a = then_of (option_and_then as_integer (as_number d)) (int_if f) t h in
    at a.from (f a.from) refl a.then_is
  where
    at : (z : ℤ) (b : Bool) → f z ≡ b → int_if f z ≡ Some t → fits_number f t ≡ true
    at z true e k =
        let same : num z ≡ t = let one : int_if f z ≡ Some (num z) = ap (λ (b : Bool). if b then Some (num z) else None) e in cc in
        subst (λ (u : TreeData). fits_number f u ≡ true) same e
    at z false e k = let none : int_if f z ≡ None = ap (λ (b : Bool). if b then Some (num z) else None) e in cc

all_fit : (f : Data → Option TreeData) (p : TreeData → Bool) → ((d : Data) (t : TreeData) → f d ≡ Some t → p t ≡ true)
    → (ds : Items) (ts : TreesData)
    → all_read f ds ≡ Some ts → all_trees p ts ≡ true
all_fit f p each no_items ts h = let same : no_trees ≡ ts = cc in subst (λ (us : TreesData). all_trees p us ≡ true) same refl
all_fit f p each (item d ds) ts h =
    let a = then_of (f d) (λ v. option_map (tree v) (all_read f ds)) ts h in
    let b = made_of (all_read f ds) (tree a.from) ts a.then_is in
    subst (λ (us : TreesData). all_trees p us ≡ true) b.made
    (both (p a.from) (all_trees p b.from) (each d a.from a.is) (all_fit f p each ds b.from b.is))

next_fits : (f : Data → Option TreeData) (g : Items → Option TreesData) (p : TreeData → Bool) (q : TreesData → Bool)
    → ((d : Data) (t : TreeData) → f d ≡ Some t → p t ≡ true) → ((ds : Items) (ts : TreesData) → g ds ≡ Some ts → q ts ≡ true)
    → (ds : Items) (ts : TreesData)
    → next_read f g ds ≡ Some ts → fits_next p q ts ≡ true
next_fits f g p q each others no_items ts h = cc
next_fits f g p q each others (item d ds) ts h =
    let a = then_of (f d) (λ v. option_map (tree v) (g ds)) ts h in
    let b = made_of (g ds) (tree a.from) ts a.then_is in
    subst (λ (us : TreesData). fits_next p q us ≡ true) b.made (both (p a.from) (q b.from) (each d a.from a.is) (others ds b.from b.is))

none_fits : (ds : Items) (ts : TreesData) → none_read ds ≡ Some ts → are_no_trees ts ≡ true
none_fits no_items ts h = let same : no_trees ≡ ts = cc in subst (λ (us : TreesData). are_no_trees us ≡ true) same refl
none_fits (item d ds) ts h = cc

pick_fits : (f : ℕ → Data → Option TreeData) (p : ℕ → TreeData → Bool) → ((tag : ℕ) (d : Data) (t : TreeData) → f tag d ≡ Some t
    → p tag t ≡ true)
    → (ds : Items) (t : TreeData) → pick_read f ds ≡ Some t → fits_pick p t ≡ true
pick_fits f p each no_items t h = cc
pick_fits f p each (item tag no_items) t h = cc
pick_fits f p each (item tag (item d no_items)) t h =
    let a = then_of (tag_read tag) (λ n. option_map (pick n) (f n d)) t h in
    let b = made_of (f a.from d) (pick a.from) t a.then_is in
    subst (λ (u : TreeData). fits_pick p u ≡ true) b.made (each a.from d b.from b.is)
pick_fits f p each (item tag (item d (item e ds))) t h = cc

choice_fits : (f : ℕ → Data → Option TreeData) (p : ℕ → TreeData → Bool) → ((tag : ℕ) (d : Data) (t : TreeData) → f tag d ≡ Some t
    → p tag t ≡ true)
    → (d : Data) (t : TreeData) → choice_read f d ≡ Some t → fits_pick p t ≡ true
choice_fits f p each null t h = let same : nothing ≡ t = cc in subst (λ (u : TreeData). fits_pick p u ≡ true) same refl
choice_fits f p each (array ds) t h = pick_fits f p each ds t h
choice_fits f p each (boolean b) t h = cc
choice_fits f p each (number n) t h = cc
choice_fits f p each (string s) t h = cc
choice_fits f p each (object ms) t h = cc

or_fits : (a b : Bool) → b ≡ true → (a || b) ≡ true
or_fits true b h = refl
or_fits false b h = h

-- null is nothing, and all else is read as the value of an optional
maybe_fits : (f : Data → Option TreeData) (p : TreeData → Bool) → ((d : Data) (t : TreeData) → f d ≡ Some t → p t ≡ true)
    → (d : Data) (t : TreeData) → maybe_read f d ≡ Some t → (is_nothing t || p t) ≡ true
maybe_fits f p each null t h = let same : nothing ≡ t = cc in subst (λ (u : TreeData). (is_nothing u || p u) ≡ true) same refl
maybe_fits f p each (boolean b) t h = or_fits (is_nothing t) (p t) (each (boolean b) t h)
maybe_fits f p each (number n) t h = or_fits (is_nothing t) (p t) (each (number n) t h)
maybe_fits f p each (string s) t h = or_fits (is_nothing t) (p t) (each (string s) t h)
maybe_fits f p each (array ds) t h = or_fits (is_nothing t) (p t) (each (array ds) t h)
maybe_fits f p each (object ms) t h = or_fits (is_nothing t) (p t) (each (object ms) t h)

items_fit : (f : Items → Option TreesData) (q : TreesData → Bool) → ((ds : Items) (ts : TreesData) → f ds ≡ Some ts → q ts ≡ true)
    → (d : Data) (t : TreeData)
    → array_read f items d ≡ Some t → fits_items q t ≡ true
items_fit f q each d t h =
    let a = then_of (as_array d) (λ ds. option_map items (f ds)) t h in
    let b = made_of (f a.from) items t a.then_is in
    subst (λ (u : TreeData). fits_items q u ≡ true) b.made (each a.from b.from b.is)

parts_fit : (f : Items → Option TreesData) (q : TreesData → Bool) → ((ds : Items) (ts : TreesData) → f ds ≡ Some ts → q ts ≡ true)
    → (d : Data) (t : TreeData)
    → array_read f parts d ≡ Some t → fits_parts q t ≡ true
parts_fit f q each d t h =
    let a = then_of (as_array d) (λ ds. option_map parts (f ds)) t h in
    let b = made_of (f a.from) parts t a.then_is in
    subst (λ (u : TreeData). fits_parts q u ≡ true) b.made (each a.from b.from b.is)

flag_fits : (o : Option Bool) (t : TreeData) → option_map flag o ≡ Some t → fits_flag t ≡ true
flag_fits o t h = let b = made_of o flag t h in subst (λ (u : TreeData). fits_flag u ≡ true) b.made refl

text_fits : (o : Option (List ℕ)) (t : TreeData) → option_map text o ≡ Some t → fits_text t ≡ true
text_fits o t h = let b = made_of o text t h in subst (λ (u : TreeData). fits_text u ≡ true) b.made refl

mutual
  tree_fits : (k : ShapeData) (d : Data) (t : TreeData) → tree_read k d ≡ Some t → fits k t ≡ true
  tree_fits kinds.bool d t h = flag_fits (as_bool d) t h
  tree_fits kinds.char d t h = int_fits (is_int 8 false) d t h
  tree_fits kinds.byte d t h = int_fits (is_int 8 false) d t h
  tree_fits (kinds.int bits signed) d t h = int_fits (is_int bits signed) d t h
  tree_fits kinds.text d t h = text_fits (text_read d) t h
  tree_fits (kinds.list k) d t h = items_fit (all_read (tree_read k)) (all_trees (fits k))
      (all_fit (tree_read k) (fits k) (tree_fits k)) d t h
  tree_fits (kinds.maybe k) d t h = maybe_fits (tree_read k) (fits k) (tree_fits k) d t h
  tree_fits (kinds.fields ps) d t h = parts_fit (parts_read ps) (fit_parts ps) (members_fit ps) d t h
  tree_fits (kinds.tuple ks) d t h = parts_fit (kinds_read ks) (fit_kinds ks) (shapes_fit ks) d t h
  tree_fits (kinds.choice ks) d t h = choice_fits (one_read ks) (fits_one ks) (alternative_fits ks) d t h

  members_fit : (ps : MembersData) (ds : Items) (ts : TreesData) → parts_read ps ds ≡ Some ts → fit_parts ps ts ≡ true
  members_fit no_parts ds ts h = none_fits ds ts h
  members_fit (part n k ps) ds ts h = next_fits (tree_read k) (parts_read ps) (fits k) (fit_parts ps) (tree_fits k) (members_fit ps) ds ts h

  shapes_fit : (ks : ShapesData) (ds : Items) (ts : TreesData) → kinds_read ks ds ≡ Some ts → fit_kinds ks ts ≡ true
  shapes_fit no_kinds ds ts h = none_fits ds ts h
  shapes_fit (kind k ks) ds ts h = next_fits (tree_read k) (kinds_read ks) (fits k) (fit_kinds ks) (tree_fits k) (shapes_fit ks) ds ts h

  alternative_fits : (ks : ShapesData) (tag : ℕ) (d : Data) (t : TreeData) → one_read ks tag d ≡ Some t → fits_one ks tag t ≡ true
  alternative_fits no_kinds tag d t h = cc
  alternative_fits (kind k ks) zero d t h = cc
  alternative_fits (kind k ks) (suc zero) d t h = tree_fits k d t h
  alternative_fits (kind k ks) (suc (suc n)) d t h = alternative_fits ks (suc n) d t h

misfit_fits : (F : MembersData) (ds : Items) (o : Option TreesData) (ts : TreesData) → parts_read F ds ≡ o → or_misfit o ≡ Ok ts
    → fit_parts F ts ≡ true
misfit_fits F ds None ts is h = cc
misfit_fits F ds (Some us) ts is h = let same : us ≡ ts =
    cc in subst (λ (vs : TreesData). fit_parts F vs ≡ true) same (members_fit F ds us is)

counted_fits : (F : MembersData) (ds : Items) (ts : TreesData) (b : Bool) → (if b then or_misfit (parts_read F ds) else Err Count)
    ≡ Ok ts → fit_parts F ts ≡ true
counted_fits F ds ts true h = misfit_fits F ds (parts_read F ds) ts refl h
counted_fits F ds ts false h = cc

data_fits : (F : MembersData) (o : Option Data) (ts : TreesData) → json_entry F o ≡ Ok ts → fit_parts F ts ≡ true
data_fits F None ts h = cc
data_fits F (Some null) ts h = cc
data_fits F (Some (boolean b)) ts h = cc
data_fits F (Some (number n)) ts h = cc
data_fits F (Some (string s)) ts h = cc
data_fits F (Some (array ds)) ts h = counted_fits F ds ts (items_len ds == parts_len F) h
data_fits F (Some (object ms)) ts h = cc

line_fits : (F : MembersData) (b c : Bool) (o : Option Data) (ts : TreesData)
    → (if b then Err TooLong else (if c then json_entry F o else Err NotJson)) ≡ Ok ts → fit_parts F ts ≡ true
line_fits F true c o ts h = cc
line_fits F false true o ts h = data_fits F o ts h
line_fits F false false o ts h = cc

-- the entry that a line is has one tree for each field, which fits it
pub entry_fits : (F : MembersData) (line : List ℕ) (ts : TreesData) → entry_of F line ≡ Ok ts → fit_parts F ts ≡ true
entry_fits F line ts h = line_fits F (nat_lt max_line (length line)) (is_utf8 line) (read line) ts h
