-- Entries that are selected one after the other.
use Rattle.std.proofs.Common.{◌≡◌, ◌∙◌, ap, sym, refl, subst, ℕ, ◌+◌, ◌<◌, ◌≤◌, Bool, true, false, cond, List, [], ◌∷◌, ◌++◌, length}
use Rattle.std.proofs.Common.{take, drop, map, filter, None, Ok, Err, append_assoc, arith}
use Rattle.std.specs.Prelude.{slice_index_or}
use Rattle.std.proofs.lemmas.List.{append-nil, drop_more, take_more, take_all, take-append-drop, length-append, map-append}
use Rattle.nt_types.specs.TreeData.{TreesData, no_trees}
use Rattle.nt_skim.specs.declared.error.SkimError.{SkimError}
use Rattle.nt_skim.specs.declared.error.SkimError.TheVariants.{Defect, Fault, Sink, Memory}
use Rattle.nt_join.specs.Chosen.{chosen}
use Rattle.nt_skim.specs.Select.{Selection, passes, selected}
use Rattle.nt_skim.specs.Skimming.{SinkState, GainsEntries, GainsFirstEntries, TakesSelected}

-- ---- what is selected of lists

filter-two : (f : TreesData → Bool) (xs ys : List TreesData) → filter f (xs ++ ys) ≡ filter f xs ++ filter f ys
filter-two f [] ys = refl
filter-two f (x ∷ xs) ys = by (λ u. filter-two f xs ys) (f x)
  where
    by : (Unit {0} → filter f (xs ++ ys) ≡ filter f xs ++ filter f ys) → (b : Bool)
        → cond b (x ∷ filter f (xs ++ ys)) (filter f (xs ++ ys)) ≡ cond b (x ∷ filter f xs) (filter f xs) ++ filter f ys
    by rest true = ap (λ (l : List TreesData). x ∷ l) (rest tt)
    by rest false = rest tt

module _ (s : Selection) where
  pub selected-append : (xs ys : List TreesData) → selected s (xs ++ ys) ≡ selected s xs ++ selected s ys
  selected-append xs ys =
      ap (map (chosen s.places)) (filter-two (passes s.test) xs ys)
      ∙ map-append (chosen s.places) (filter (passes s.test) xs) (filter (passes s.test) ys)

  one-more : (xs : List TreesData) (i : ℕ) → i < length xs
      → selected s (take (i + 1) xs)
      ≡ selected s (take i xs) ++ selected s (slice_index_or xs i no_trees ∷ [])
  one-more xs i less =
      ap (selected s) (take_more xs i no_trees less) ∙ selected-append (take i xs) (slice_index_or xs i no_trees ∷ [])

-- ---- what a sink gains

-- which entries were put, as a sink tells
abbrev pub Told : Type 1
Told = List TreesData → Type 0

pub gains-nothing : (o : Told) → GainsEntries [] o o
gains-nothing o es is = subst o (sym (append-nil es)) is

pub gains-then : (a b c : Told) (xs ys : List TreesData) → GainsEntries xs a b → GainsEntries ys b c
    → GainsEntries (xs ++ ys) a c
gains-then a b c xs ys first more es is =
    subst c (append_assoc es xs ys) (more (es ++ xs) (first es is))

pub gains-front : (a b : Told) (xs : List TreesData) → GainsEntries xs a b → GainsFirstEntries xs a b
gains-front a b xs gains es is = (xs, [], sym (append-nil xs), gains es is)

-- the first of what comes behind, and maybe more behind that
pub front-then : (a b c : Told) (xs ys zs : List TreesData) → GainsEntries xs a b → GainsFirstEntries ys b c
    → GainsFirstEntries (xs ++ (ys ++ zs)) a c
front-then a b c xs ys zs first more es is =
    let some = more (es ++ xs) (first es is) in (
      xs ++ some.0,
      some.1 ++ zs,
      ap (λ (l : List TreesData). xs ++ (l ++ zs)) some.2
          ∙ (ap (λ (l : List TreesData). xs ++ l) (append_assoc some.0 some.1 zs) ∙ sym (append_assoc xs some.0 (some.1 ++ zs))),
      subst c (append_assoc es xs some.0) some.3,
    )

-- ---- the entries of one cluster

-- those before this one were taken
pub record HasTaken {F B : Type 0} (s : Selection) (entries : List TreesData) (i total : ℕ)
    (old new : SinkState F B) : Type 0 where
  pub count : total ≡ length (selected s (take i entries))
  pub gains : GainsEntries (selected s (take i entries)) old.entries new.entries
  pub going : new.refused ≡ None
  pub fields : new.fields ≡ old.fields
  pub birth : new.birth ≡ old.birth

module _ {F B : Type 0} (s : Selection) (entries : List TreesData) (i total : ℕ) (old mid new : SinkState F B)
    (so-far : HasTaken s entries i total old mid) where
  pub taken_more : (n sum : ℕ) → sum ≡ total + n → i < length entries
      → TakesSelected (selected s (slice_index_or entries i no_trees ∷ [])) mid new (Ok n) → new.refused ≡ None
      → new.fields ≡ mid.fields → new.birth ≡ mid.birth → HasTaken s entries (i + 1) sum old new
  taken_more n sum sum_is less takes going fields birth =
      let more = one-more s entries i less in
      record {
        count = omega (
          arith,
          sum_is,
          so-far.count,
          takes.0,
          ap length more,
          length-append (selected s (take i entries)) (selected s (slice_index_or entries i no_trees ∷ [])),
        );
        gains = λ es is. subst (λ (l : List TreesData). new.entries (es ++ l)) (sym more)
            (gains-then old.entries mid.entries new.entries _ _ so-far.gains takes.1 es is);
        going = going;
        fields = fields ∙ so-far.fields;
        birth = birth ∙ so-far.birth;
      }

  -- what a put takes of the next one is the front of all
  front_of_all : (a b c : Told) → i < length entries
      → GainsEntries (selected s (take i entries)) a b
      → GainsFirstEntries (selected s (slice_index_or entries i no_trees ∷ [])) b c
      → GainsFirstEntries (selected s entries) a c
  front_of_all a b c less first more es is =
      let split : selected s entries
      ≡ selected s (take i entries)
      ++ (selected s (slice_index_or entries i no_trees ∷ []) ++ selected s (drop (i + 1) entries)) =
      ap (selected s) (sym (take-append-drop i entries))
      ∙ (selected-append s (take i entries) (drop i entries)
      ∙ ap (λ (l : List TreesData). selected s (take i entries) ++ l)
      (ap (selected s) (drop_more entries i no_trees less)
      ∙ selected-append s (slice_index_or entries i no_trees ∷ []) (drop (i + 1) entries))) in
      let some = front-then a b c _ _ (selected s (drop (i + 1) entries)) first more es is in
      (some.0, some.1, split ∙ some.2, some.3)

  pub taken_part : (e : SkimError F) → i < length entries
      → TakesSelected (selected s (slice_index_or entries i no_trees ∷ [])) mid new (Err e)
      → TakesSelected (selected s entries) old new (Err e)
  taken_part (Defect f) less takes = takes
  taken_part Fault less takes = takes
  taken_part (Sink f) less takes = front_of_all old.entries mid.entries new.entries less so-far.gains takes
  taken_part Memory less takes = front_of_all old.entries mid.entries new.entries less so-far.gains takes

  pub taken_too_many : (n : ℕ) → i < length entries
      → TakesSelected (selected s (slice_index_or entries i no_trees ∷ [])) mid new (Ok n)
      → GainsFirstEntries (selected s entries) old.entries new.entries
  taken_too_many n less takes =
      front_of_all old.entries mid.entries new.entries less so-far.gains (gains-front mid.entries new.entries _ takes.1)

module _ {F B : Type 0} (s : Selection) (entries : List TreesData) where
  pub taken_none : (old : SinkState F B) → old.refused ≡ None → HasTaken s entries 0 0 old old
  taken_none old going = record { count = refl; gains = gains-nothing old.entries; going = going; fields = refl; birth = refl }

  pub taken_all : (i total : ℕ) (old new : SinkState F B) → length entries ≤ i → HasTaken s entries i total old new
      → TakesSelected (selected s entries) old new (Ok total)
  taken_all i total old new past so-far =
      let whole : take i entries ≡ entries = take_all i entries past in (
        so-far.count ∙ ap (λ (l : List TreesData). length (selected s l)) whole,
        λ es is. subst (λ (l : List TreesData). new.entries (es ++ selected s l)) whole (so-far.gains es is),
      )
