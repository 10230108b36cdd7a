-- A file is made, and its totals are printed: what is told of it.
use Rattle.std.proofs.Common.{◌≡◌, ◌∙◌, inl, inr, ap, sym, refl, ℕ, List, [], ◌++◌, Option, Some, None}
use Rattle.std.proofs.Common.{Result, Ok, Err, arith}
use Rattle.std.proofs.lemmas.List.{append-nil}
use Rattle.nt_num.specs.declared.fault.ReadError.{ReadError}
use Rattle.nt_lists.specs.Chaining.{◌>>=◌}
use Rattle.nt_types.specs.TreeData.{TreesData}
use Rattle.nt_outside.specs.declared.stream.Stream.TheVariants.{ToOut}
use Rattle.nt_outside.specs.World.{World, file, prints}
use Rattle.nt_grammar.specs.Table.{Table}
use Rattle.nt_book.specs.declared.params.Params.{Params}
use Rattle.nt_generate.specs.declared.total.Total.{Total}
use Rattle.nt_generate.specs.Totals.{totals_of}
use Rattle.nt_generate.specs.MadeTotals.{made_totals}
use Rattle.nt_generate.specs.Lines.{total_lines}
use Rattle.nt_generate.proofs.Sums.{made_totals-is}
use Rattle.nt_generate.specs.ReadTotals.{totals_in}
use Rattle.nt_draws.specs.declared.making.Making.{Making}
use Rattle.nt_outside.specs.Order.{EndsInSync}
use Rattle.nt_store.specs.Worlds.{IsThereWith, MakesDisk, IsLeftAfter}
use Rattle.nt_generate.specs.declared.error.GenerateError.{GenerateError}
use Rattle.nt_generate.specs.declared.error.GenerateError.TheVariants.{Outside, Memory, Limit, Defect}
use Rattle.nt_generate.specs.Made.{made_lines, IsMade}
use Rattle.nt_generate.specs.Leaving.{MakeTold, TellTold, PrintsTotalsFront}
use Rattle.nt_generate.specs.Generated.{IsToldInPart, GenerateTold}

pub some_is : (a b : World) → ◌≡◌ {A = Option World} (Some a) (Some b) → a ≡ b
some_is a b e = cc

-- two facts of what is there
both_there : (P Q R : List ℕ → Type 0) (found : Option (List ℕ)) → ((bytes : List ℕ) → P bytes → Q bytes → R bytes) → IsThereWith P found
    → IsThereWith Q found → IsThereWith R found
both_there P Q R None turn one other = one
both_there P Q R (Some bytes) turn one other = turn bytes one other

-- a fact that doesn't speak of the bytes
there_then : (P : List ℕ → Type 0) (R : Type 0) (found : Option (List ℕ)) → ((bytes : List ℕ) → P bytes → R) → IsThereWith P found → R
there_then P R None turn is = absurd is
there_then P R (Some bytes) turn is = turn bytes is

-- the totals of what is made
made_read : (p : Params) (m : Making) (order bytes : List ℕ) → IsMade p m order bytes
    → totals_in m.contexts order bytes ≡ Ok (made_totals p.cluster m.contexts m.events m.seed)
made_read p m order bytes made =
    ap (λ (r : Result (Table × List (List TreesData)) ReadError). r >>= λ (t : Table × List (List TreesData)).
    Ok (totals_of m.contexts order t.1)) made.means
    ∙ ap (λ (l : List Total). Ok l)
    (made_totals-is p.cluster m.contexts m.events m.seed order made.dealt (omega (arith, p.cluster_range.0)) m.events_range made.uses
    made.is_deal)

totals_are : (a b : List Total) → ◌≡◌ {A = Result (List Total) ReadError} (Ok a) (Ok b) → a ≡ b
totals_are a b e = cc

lines_are : (p : Params) (m : Making) (order bytes : List ℕ) (totals : List Total) → IsMade p m order bytes
    → totals_in m.contexts order bytes ≡ Ok totals → total_lines totals ≡ made_lines p m
lines_are p m order bytes totals made reads = ap total_lines (totals_are totals _ (sym reads ∙ made_read p m order bytes made))

-- so much was printed then
pub record HasPrinted (p : Params) (m : Making) (commits name : List ℕ) (w w1 : World) (new : Option World)
    (result : Result Unit GenerateError) : Type 0 where
  pub printed : List ℕ
  pub is : new ≡ Some (prints ToOut printed w1)
  pub told : GenerateTold name p m commits w (prints ToOut printed w1) result

module _ (p : Params) (m : Making) (name : List ℕ) (w w1 : World) (out_is : w1.out ≡ w.out) where
  -- a file that isn't made
  pub unmade : {V : Type 0} (order : V → List ℕ) (commits : List ℕ) (e : GenerateError) → MakeTold order p m commits name w w1 (Err e)
      → GenerateTold name p m commits w w1 (Err e)
  unmade order commits Outside told = inl (told, out_is)
  unmade order commits Memory told = inl (told, out_is)
  unmade order commits (Limit reached most) told = (told.0, told.1, out_is)
  unmade order commits (Defect e) told = absurd told

  module _ (order : List ℕ) (made : MakesDisk name w w1) (whole : IsThereWith (IsMade p m order) (file w1 name))
      (left : IsLeftAfter EndsInSync name w1) where
    -- the front of the lines was printed
    in_part : (printed rest : List ℕ) → made_lines p m ≡ printed ++ rest → IsToldInPart p m order name w (prints ToOut printed w1)
    in_part printed rest lines = record {
      made = made;
      whole = whole;
      synced = record { at = left.at; log = left.log; there = left.there; steps = left.steps; ends = left.ends };
      gained = record { printed = printed; left = rest; out = ap (λ (l : List ℕ). l ++ printed) out_is; lines = lines };
    }

    -- the front of the lines
    front_at : (new : Option World) → PrintsTotalsFront m.contexts order (file w1 name) w1 new
        → (printed left : List ℕ) × (new ≡ Some (prints ToOut printed w1)) × (made_lines p m ≡ printed ++ left)
    front_at new (inl is) =
        ([], made_lines p m, is ∙ ap (λ (l : List ℕ). Some (record w1 { out = l })) (sym (append-nil w1.out)), refl)
    front_at new (inr told) =
        there_then _ _ (file w1 name) (λ bytes fact. fact) (both_there _ _
        (λ bytes. (printed left : List ℕ) × (new ≡ Some (prints ToOut printed w1)) × (made_lines p m ≡ printed ++ left)) (file w1 name)
        (λ bytes one t. (t.1, t.2, t.4, sym (lines_are p m order bytes t.0 one t.3) ∙ t.5)) whole told)

    -- the totals were told, or why not
    pub printed_told : (new : Option World) (result : Result Unit GenerateError)
        → TellTold m.contexts order (file w1 name) w1 new result → HasPrinted p m order name w w1 new result
    printed_told new (Ok done) told =
        let is = there_then _ _ (file w1 name) (λ bytes fact. fact) (both_there _ _
        (λ bytes. new ≡ Some (prints ToOut (made_lines p m) w1)) (file w1 name)
        (λ bytes one t. t.2 ∙ ap (λ (l : List ℕ). Some (prints ToOut l w1)) (lines_are p m order bytes t.0 one t.1)) whole told) in
        record {
          printed = made_lines p m;
          is = is;
          told = (made, whole, ap (λ (l : List ℕ). l ++ made_lines p m) out_is);
        }
    printed_told new (Err Outside) told =
        let front = front_at new told in
        record { printed = front.0; is = front.2; told = inr (in_part front.0 front.1 front.3) }
    printed_told new (Err Memory) told =
        let front = front_at new told in
        record { printed = front.0; is = front.2; told = inr (in_part front.0 front.1 front.3) }
    printed_told new (Err (Limit reached most)) told = absurd told
    printed_told new (Err (Defect e)) told =
        absurd (there_then _ _ (file w1 name) (λ bytes fact. fact) (both_there _ _ (λ bytes. ⊥) (file w1 name)
        (λ bytes one other. no_fault bytes _ (made_read p m order bytes one) other) whole told.0))
      where
        no_fault : (bytes : List ℕ) (totals : List Total) → totals_in m.contexts order bytes ≡ Ok totals
            → totals_in m.contexts order bytes ≡ Err e → ⊥
        no_fault bytes totals is other = let bad = sym is ∙ other in cc
