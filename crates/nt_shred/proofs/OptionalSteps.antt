-- The value of an optional that is added, if there is one, and the end behind it.
use Rattle.std.proofs.Common.{◌≡◌, ℕ, ◌+◌, ◌-◌, ◌≤◌, ◌||◌, Bool, cond, true, false, List, [], ◌∷◌, length, Option, None, Some}
use Rattle.std.proofs.Common.{refl, sym, ◌∙◌, ap, subst, arith, length-append, inl, inr, ◌⊎◌}
use Rattle.std.proofs.lemmas.Bool.{cases_eq, ne_eqb, false≢true, true≢false}
use Rattle.nt_types.specs.ShapeData.{no_kinds}
use Rattle.nt_types.specs.TreeData.{TreeData, flag, num, items, parts, pick, nothing, is_nothing}
use Rattle.nt_types.specs.TreeData as trees
use Rattle.nt_event.specs.Standing.{StandsFrom}
use Rattle.nt_event.proofs.Texts.{reads-null}
use Rattle.nt_column.specs.Column.{Buffer}
use Rattle.nt_column.specs.Elements.{Element, plain}
use Rattle.nt_plans.specs.Plan.{PlanData, bool, number, text, list, maybe, record_of, choice, has}
use Rattle.nt_trees.specs.Columns.{Cols, last_end, add_to}
use Rattle.nt_trees.specs.Put.{put_tree}
use Rattle.nt_trees.specs.Fits.{fits_plan}
use Rattle.nt_trees.specs.Views.{cols_of}
use Rattle.nt_trees.proofs.Elsewhere.{add_to-here, add_to-elsewhere, put_tree-elsewhere}
use Rattle.nt_shred.specs.Steps.{put_some, Ready, GainsInRoom}
use Rattle.nt_shred.proofs.Optionals.{how_many_in, put_maybe-some, some-gains, none-gains, maybe-done}
use Rattle.nt_shred.specs.Walk.{CanPut, Puts, PutsSome, Leaves, takes_null}

-- ---- the value

pub maybe-inside : (e : ℕ) (p : PlanData) (left : ℕ) (bs : List Buffer) → CanPut (maybe e p) left bs → CanPut p left bs
maybe-inside e p left bs can = record {
  size = last_end (cols_of bs e);
  sound = can.sound.3;
  differ = can.differ.1;
  takes = can.takes.1;
  room = can.room;
}

pub none-put : (p : PlanData) (line : List ℕ) (at end : ℕ) (bs : List Buffer) → StandsFrom (110 ∷ 117 ∷ 108 ∷ 108 ∷ []) line at end
    → PutsSome p line at end bs bs
none-put p line at end bs h = record {
  found = nothing;
  stands = (reads-null 0 no_kinds line at end h).stands;
  range = tt;
  fitting = refl;
  gains = none-gains (put_tree p) nothing bs refl;
  few = λ k. omega arith;
}

-- a plan that doesn't take nothing takes something
fits-something : (p : PlanData) (t : TreeData) → takes_null p ≡ false → fits_plan p t ≡ true → is_nothing t ≡ false
fits-something p (flag b) never h = refl
fits-something p (num z) never h = refl
fits-something p (trees.text s) never h = refl
fits-something p (items ts) never h = refl
fits-something p (parts ts) never h = refl
fits-something p (pick tag t) never h = refl
fits-something (bool k) nothing never h = absurd (false≢true h)
fits-something (number k bits signed) nothing never h = absurd (false≢true h)
fits-something (text e c) nothing never h = absurd (false≢true h)
fits-something (list e p) nothing never h = absurd (false≢true h)
fits-something (record_of ps) nothing never h = absurd (false≢true h)
fits-something (maybe e p) nothing never h = absurd (true≢false never)
fits-something (choice s ps) nothing never h = absurd (true≢false never)

pub some-put : (p : PlanData) (line : List ℕ) (at end : ℕ) (old new : List Buffer) → takes_null p ≡ false → Puts p line at end old new
    → PutsSome p line at end old new
some-put p line at end old new never h =
    let is = fits-something p h.found never h.fitting in
    record {
      found = h.found;
      stands = h.stands;
      range = h.range;
      fitting = ap (λ b. b || fits_plan p h.found) is ∙ h.fitting;
      gains = some-gains (put_tree p) h.found old new is h.gains;
      few = h.few;
    }

pub some-one : (p : PlanData) (line : List ℕ) (at end : ℕ) (old new : List Buffer) (never : takes_null p ≡ false)
    (h : Puts p line at end old new) → is_nothing (some-put p line at end old new never h).found ≡ false
unfolding some-put
some-one p line at end old new never h = fits-something p h.found never h.fitting

pub some-leaves : (p : PlanData) (line : List ℕ) (at : ℕ) (old new : List Buffer) (r : Option ℕ) → takes_null p ≡ false
    → Leaves (λ end. Puts p line at end old new) old new r → Leaves (λ end. PutsSome p line at end old new) old new r
some-leaves p line at old new None never h = h
some-leaves p line at old new (Some end) never h = some-put p line at end old new never h

-- ---- the value and its end

some-elsewhere : (p : PlanData) (t : TreeData) (cols : Cols) (e : ℕ) → has p e ≡ false → put_some (put_tree p) t cols e ≡ cols e
some-elsewhere p t cols e fresh = go (is_nothing t)
  where
    go : (b : Bool) → cond b cols (put_tree p t cols) e ≡ cols e
    go true = refl
    go false = put_tree-elsewhere p t cols e fresh

-- one element more of a column that has no other
one-apart : (e : ℕ) (x : Element) (n : ℕ) (old mid : Cols) → 1 ≤ n → mid e ≡ old e → ((k : ℕ) → length (mid k) ≤ length (old k) + n)
    → (k : ℕ) → length (add_to e (x ∷ []) mid k) ≤ length (old k) + n
one-apart e x n old mid some same few k = go (cases_eq k e)
  where
    go : (k ≡ e) ⊎ (k ≡ e → ⊥) → length (add_to e (x ∷ []) mid k) ≤ length (old k) + n
    go (inl is) = subst (λ i. length (add_to e (x ∷ []) mid i) ≤ length (old i) + n) (sym is)
        (omega (arith, some, ap length same, ap length (add_to-here e (x ∷ []) mid), length-append (mid e) (x ∷ [])))
    go (inr not) = omega (arith, few k, ap length (add_to-elsewhere e (x ∷ []) mid k (ne_eqb k e not)))

module _ (e : ℕ) (p : PlanData) (line : List ℕ) (at end : ℕ) (old now : List Buffer)
    (can : CanPut (maybe e p) (length line - at) old) (h : PutsSome p line at end old now) where
  -- no column gets more elements than there are bytes
  grown : (k : ℕ) → length (put_tree (maybe e p) h.found (cols_of old) k) ≤ length (cols_of old k) + (end - at)
  grown k = subst (λ (c : Cols). length (c k) ≤ length (cols_of old k) + (end - at))
      (sym (put_maybe-some e (put_tree p) h.found (cols_of old)))
      (one-apart e (plain (last_end (cols_of old e) + how_many_in h.found)) (end - at) (cols_of old)
      (put_some (put_tree p) h.found (cols_of old)) (omega (arith, h.stands.some))
      (some-elsewhere p h.found (cols_of old) e can.differ.0)
      (λ j. omega (arith, h.few j, ap (λ (c : Cols). length (c j)) h.gains.columns)) k)

  pub maybe-ready : Ready (maybe e p) h.found old
  maybe-ready = record {
    size = can.size;
    sound = can.sound;
    differ = can.differ;
    fitting = h.fitting;
    takes = can.takes;
    room = record {
      memory = λ k m. omega (arith, grown k, can.room.memory k m, h.stands.some, h.stands.within);
      ends = λ k m. omega (arith, grown k, can.room.ends k m, h.stands.some, h.stands.within);
    };
  }

  pub maybe-put : (new : List Buffer) (last : ℕ) → GainsInRoom (add_to e (plain last ∷ [])) now new
      → last ≡ last_end (cols_of old e) + how_many_in h.found → Puts (maybe e p) line at end old new
  maybe-put new last g is =
      let all = maybe-done e p h.found old now maybe-ready h.gains new last g is in
      record {
        found = h.found;
        stands = h.stands;
        range = h.range;
        fitting = h.fitting;
        gains = all;
        few = λ k. omega (arith, grown k, ap (λ (c : Cols). length (c k)) all.columns);
      }
