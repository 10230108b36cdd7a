-- A shape and the one that it is written with take the same trees.
use Rattle.std.proofs.Common.{◌≡◌, ◌∙◌, ap, refl, ℕ, zero, suc, Bool, true, false, ◌&&◌, ◌||◌, if◌then◌else◌}
use Rattle.nt_types.specs.ShapeData.{ShapeData, ShapesData, MembersData, bool, char, byte, int, text, list, maybe, fields}
use Rattle.nt_types.specs.ShapeData.{tuple, choice, no_kinds, kind, no_parts, part}
use Rattle.nt_types.specs.TreeData as trees
use Rattle.nt_types.specs.TreeData.{TreeData, TreesData, no_trees, tree, is_nothing}
use Rattle.nt_types.specs.Fits.{fits, fit_parts, fit_kinds, fits_one, all_trees, fits_items, fits_parts, fits_pick, fits_next}
use Rattle.nt_writable.specs.Written.{as_written, kinds_as_written, parts_as_written, kinds_of_members, named_by_places}

-- ---- tests that agree

all-ext : (f g : TreeData → Bool) → ((t : TreeData) → f t ≡ g t) → (ts : TreesData) → all_trees f ts ≡ all_trees g ts
all-ext f g h no_trees = refl
all-ext f g h (tree t ts) = ap (λ (b : Bool). b && all_trees f ts) (h t) ∙ ap (λ (b : Bool). g t && b) (all-ext f g h ts)

items-ext : (f g : TreesData → Bool) → ((ts : TreesData) → f ts ≡ g ts) → (t : TreeData) → fits_items f t ≡ fits_items g t
items-ext f g h (trees.items ts) = h ts
items-ext f g h _ = refl

parts-ext : (f g : TreesData → Bool) → ((ts : TreesData) → f ts ≡ g ts) → (t : TreeData) → fits_parts f t ≡ fits_parts g t
parts-ext f g h (trees.parts ts) = h ts
parts-ext f g h _ = refl

pick-ext : (f g : ℕ → TreeData → Bool) → ((n : ℕ) (t : TreeData) → f n t ≡ g n t) → (t : TreeData) → fits_pick f t ≡ fits_pick g t
pick-ext f g h trees.nothing = refl
pick-ext f g h (trees.pick tag t) = h tag t
pick-ext f g h _ = refl

next-ext : (f g : TreeData → Bool) (p q : TreesData → Bool) → ((t : TreeData) → f t ≡ g t) → ((ts : TreesData) → p ts ≡ q ts)
    → (ts : TreesData) → fits_next f p ts ≡ fits_next g q ts
next-ext f g p q h k no_trees = refl
next-ext f g p q h k (tree t ts) = ap (λ (b : Bool). b && p ts) (h t) ∙ ap (λ (b : Bool). g t && b) (k ts)

record-same : (ps : MembersData) (t : TreeData) → ((ts : TreesData) → fit_kinds (kinds_of_members ps) ts ≡ fit_parts ps ts)
    → ((ts : TreesData) → fit_parts (parts_as_written ps) ts ≡ fit_parts ps ts) → (b : Bool)
    → fits (if b then tuple (kinds_of_members ps) else fields (parts_as_written ps)) t ≡ fits_parts (fit_parts ps) t
record-same ps t kinds members true = parts-ext (fit_kinds (kinds_of_members ps)) (fit_parts ps) kinds t
record-same ps t kinds members false = parts-ext (fit_parts (parts_as_written ps)) (fit_parts ps) members t

-- ---- shapes

mutual
  pub same : (k : ShapeData) (t : TreeData) → fits (as_written k) t ≡ fits k t
  same bool t = refl
  same char t = refl
  same byte t = refl
  same (int bits signed) t = refl
  same text t = refl
  same (list k) t =
      items-ext (all_trees (fits (as_written k))) (all_trees (fits k)) (all-ext (fits (as_written k)) (fits k) (λ u. same k u)) t
  same (maybe k) t = ap (λ (b : Bool). is_nothing t || b) (same k t)
  same (fields ps) t = record-same ps t (λ ts. members-same ps ts) (λ ts. parts-same ps ts) (named_by_places 0 ps)
  same (tuple ks) t = parts-ext (fit_kinds (kinds_as_written ks)) (fit_kinds ks) (λ ts. kinds-same ks ts) t
  same (choice ks) t = pick-ext (fits_one (kinds_as_written ks)) (fits_one ks) (λ n u. one-same ks n u) t

  kinds-same : (ks : ShapesData) (ts : TreesData) → fit_kinds (kinds_as_written ks) ts ≡ fit_kinds ks ts
  kinds-same no_kinds ts = refl
  kinds-same (kind k ks) ts =
      next-ext (fits (as_written k)) (fits k) (fit_kinds (kinds_as_written ks)) (fit_kinds ks) (λ u. same k u) (λ us. kinds-same ks us) ts

  members-same : (ps : MembersData) (ts : TreesData) → fit_kinds (kinds_of_members ps) ts ≡ fit_parts ps ts
  members-same no_parts ts = refl
  members-same (part n k ps) ts =
      next-ext (fits (as_written k)) (fits k) (fit_kinds (kinds_of_members ps)) (fit_parts ps) (λ u. same k u) (λ us. members-same ps us) ts

  parts-same : (ps : MembersData) (ts : TreesData) → fit_parts (parts_as_written ps) ts ≡ fit_parts ps ts
  parts-same no_parts ts = refl
  parts-same (part n k ps) ts =
      next-ext (fits (as_written k)) (fits k) (fit_parts (parts_as_written ps)) (fit_parts ps) (λ u. same k u) (λ us. parts-same ps us) ts

  one-same : (ks : ShapesData) (n : ℕ) (t : TreeData) → fits_one (kinds_as_written ks) n t ≡ fits_one ks n t
  one-same no_kinds n t = refl
  one-same (kind k ks) zero t = refl
  one-same (kind k ks) (suc zero) t = same k t
  one-same (kind k ks) (suc (suc n)) t = one-same ks (suc n) t
