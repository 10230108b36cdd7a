-- The making of a file and the telling of its totals, joined.
use Rattle.std.proofs.Common.{◌≡◌, ◌∙◌, ap, sym, subst, refl, ℕ, List, [], ◌∷◌, ◌++◌, length, take, drop, Option}
use Rattle.std.proofs.Common.{Result, Ok, Err, append_assoc, length-append, arith}
use Rattle.std.proofs.lemmas.List.{take-append-drop, length-take}
use Rattle.nt_outside.specs.declared.stream.Stream.TheVariants.{ToOut}
use Rattle.nt_outside.specs.Log.{Step}
use Rattle.nt_outside.specs.World.{World, Asked, Out, File, HostState, file, prints}
use Rattle.nt_book.specs.declared.params.Params.{Params}
use Rattle.nt_draws.specs.declared.making.Making.{Making}
use Rattle.nt_outside.specs.Order.{EndsInSync}
use Rattle.nt_store.specs.Worlds.{AsksFirst, AsksFor, IsWrittenInOrder, IsLeftAfter}
use Rattle.nt_store.proofs.Asking.{asks_front}
use Rattle.nt_generate.specs.declared.error.GenerateError.{GenerateError}
use Rattle.nt_generate.specs.declared.error.GenerateError.TheVariants.{Outside, Memory, Limit, Defect}
use Rattle.nt_generate.specs.Made.{IsMade}
use Rattle.nt_generate.specs.Writing.{MadeCrash}
use Rattle.nt_generate.specs.Leaving.{IsServed, IsWhole, LeavesMade, TellTold}
use Rattle.nt_generate.specs.Leaving.{MakesFile, TellsTotals}
use Rattle.nt_generate.specs.Generated.{Generates}
use Rattle.nt_generate.proofs.Told.{tells_as}
use Rattle.nt_generate.proofs.Printed.{printed_told, some_is, unmade}

-- a crash that leaves a made file whole, or unfinished, whatever is told of it later
crash_later : {V : Type 0} (P : List ℕ → Type 0) (log : List Step) (made : V) (result : Result Unit GenerateError)
    → ((reached most : ℕ) → result ≡ Err (Limit reached most) → ⊥) → MadeCrash P log (Ok made) → MadeCrash P log result
crash_later P log made (Ok done) no_limit leaves = leaves
crash_later P log made (Err Outside) no_limit leaves = leaves.0
crash_later P log made (Err Memory) no_limit leaves = leaves.0
crash_later P log made (Err (Limit reached most)) no_limit leaves = absurd (no_limit reached most refl)
crash_later P log made (Err (Defect e)) no_limit leaves = leaves.0

no_limit : (contexts : ℕ) (order : List ℕ) (found : Option (List ℕ)) (w : World) (new : Option World) (result : Result Unit GenerateError)
    (reached most : ℕ) → TellTold contexts order found w new result → result ≡ Err (Limit reached most) → ⊥
no_limit contexts order found w new (Ok done) reached most told is = absurd (cc is)
no_limit contexts order found w new (Err Outside) reached most told is = absurd (cc is)
no_limit contexts order found w new (Err Memory) reached most told is = absurd (cc is)
no_limit contexts order found w new (Err (Limit reached' most')) reached most told is = told
no_limit contexts order found w new (Err (Defect e)) reached most told is = absurd (cc is)

-- one behind the other
served_on : {V W : Type 0} (old mid new : HostState) (first : Result V GenerateError) (result : Result W GenerateError)
    → IsServed old mid first → IsServed mid new result → IsServed old new result
served_on old mid new first result one next = record {
  later = omega (arith, one.later, next.later);
  failed = λ is. let rose = next.failed is in omega (arith, one.later, rose);
  back = record {
    err_faults = next.back.err_faults ∙ one.back.err_faults;
    opened = omega (arith, one.back.opened, next.back.opened);
  };
}

-- the same of an error
pub served_as : {V W : Type 0} (old new : HostState) (e : GenerateError) → IsServed {V = V} old new (Err e)
    → IsServed {V = W} old new (Err e)
served_as old new e one = record { later = one.later; failed = λ is. one.failed (cc is); back = one.back }

crash_as : (V W : Type 0) (P : List ℕ → Type 0) (log : List Step) (e : GenerateError) → MadeCrash {V = V} P log (Err e)
    → MadeCrash {V = W} P log (Err e)
crash_as V W P log Outside leaves = leaves
crash_as V W P log Memory leaves = leaves
crash_as V W P log (Limit reached most) leaves = leaves
crash_as V W P log (Defect e) leaves = leaves

-- where no more than the first of two objects was asked for, both weren't
pub not_both : (old new : List Asked) (a b : Asked) → AsksFirst (a ∷ []) old new → new ≡ old ++ a ∷ b ∷ [] → ⊥
not_both old new a b (n, is) both = omega (
  arith,
  ap length (sym is ∙ both),
  length-append old (take n (a ∷ [])),
  length-append old (a ∷ b ∷ []),
  length-take n (a ∷ []),
)

-- the file isn't made
pub ends_unmade : {V : Type 0} (order : V → List ℕ) (name : List ℕ) (p : Params) (m : Making) (old new : HostState) (e : GenerateError)
    → MakesFile order name p m old new (Err e) → Generates name p m old new (Err e)
ends_unmade {V} order name p m old new e makes = record {
  commits = makes.commits;
  told = λ w is.
      let back = makes.told w is in
      (back.0, back.1, back.2, back.4, unmade p m name w back.0 back.3 order makes.commits e back.5);
  order = makes.order_kept;
  crash = λ w w' is is' made.
      let left = makes.crash w w' is is' made in
      record {
        at = left.at;
        log = left.log;
        there = left.there;
        steps = left.steps;
        leaves = crash_as V (Unit {0}) (IsMade p m makes.commits) left.log e left.leaves;
      };
  asked =
      asks_front old.asked new.asked (Out name ∷ File name ∷ []) (take makes.asked.0 (Out name ∷ []))
      (drop makes.asked.0 (Out name ∷ []) ++ File name ∷ []) makes.asked.1
      (ap (λ (l : List Asked). l ++ File name ∷ []) (sym (take-append-drop makes.asked.0 (Out name ∷ [])))
      ∙ append_assoc (take makes.asked.0 (Out name ∷ [])) (drop makes.asked.0 (Out name ∷ [])) (File name ∷ []));
  reads_whole = λ w w' is is' both. absurd (not_both old.asked new.asked (Out name) (File name) makes.asked both);
  served = served_as old new e makes.served;
}

asks_both : (old mid new : List Asked) (a b : Asked) (result : Result Unit GenerateError) → mid ≡ old ++ a ∷ []
    → AsksFor (b ∷ []) mid new result → AsksFor (a ∷ b ∷ []) old new result
asks_both old mid new a b (Ok done) first next =
    next ∙ ap (λ (l : List Asked). l ++ b ∷ []) first ∙ append_assoc old (a ∷ []) (b ∷ [])
asks_both old mid new a b (Err e) first (n, is) =
    asks_front old new (a ∷ b ∷ []) (a ∷ take n (b ∷ [])) (drop n (b ∷ []))
    (is ∙ ap (λ (l : List Asked). l ++ take n (b ∷ [])) first ∙ append_assoc old (a ∷ []) (take n (b ∷ [])))
    (ap (λ (l : List Asked). a ∷ l) (sym (take-append-drop n (b ∷ []))))

-- it is made, and its totals are told, or why not
pub ends_told : {V : Type 0} (order : V → List ℕ) (name : List ℕ) (p : Params) (m : Making) (old mid new : HostState) (made : V)
    (result : Result Unit GenerateError) → MakesFile order name p m old mid (Ok made)
    → TellsTotals name m.contexts (order made) mid new result → Generates name p m old new result
ends_told order name p m old mid new made result makes tells = record {
  commits = makes.commits;
  told = λ w is.
      let back = makes.told w is in
      let tells' = tells_as name m.contexts (order made) makes.commits mid new result back.5.0 tells in
      let done = printed_told p m name w back.0 back.3 makes.commits back.5.1 back.5.2 back.5.3 new.world result
      (tells'.told back.0 back.1) in
      (prints ToOut done.printed back.0, done.is, back.2, back.4, done.told);
  order = λ w w' is is' made-disk.
      let back = makes.told w is in
      let tells' = tells_as name m.contexts (order made) makes.commits mid new result back.5.0 tells in
      let done = printed_told p m name w back.0 back.3 makes.commits back.5.1 back.5.2 back.5.3 new.world result
      (tells'.told back.0 back.1) in
      let same : prints ToOut done.printed back.0 ≡ w' = some_is _ _ (sym done.is ∙ is') in
      let left = makes.order_kept w back.0 is back.1 back.5.1 in
      subst (IsWrittenInOrder name) same (record {
        at = left.at;
        log = left.log;
        there = left.there;
        steps = left.steps;
        order = left.order;
      });
  crash = λ w w' is is' made-disk.
      let back = makes.told w is in
      let tells' = tells_as name m.contexts (order made) makes.commits mid new result back.5.0 tells in
      let done = printed_told p m name w back.0 back.3 makes.commits back.5.1 back.5.2 back.5.3 new.world result
      (tells'.told back.0 back.1) in
      let same : prints ToOut done.printed back.0 ≡ w' = some_is _ _ (sym done.is ∙ is') in
      let left = makes.crash w back.0 is back.1 back.5.1 in
      subst (λ (v : World). LeavesMade name p m makes.commits v result) same (record {
        at = left.at;
        log = left.log;
        there = left.there;
        steps = left.steps;
        leaves = crash_later (IsMade p m makes.commits) left.log made result
            (λ reached most. no_limit m.contexts makes.commits (file back.0 name) back.0 new.world result reached most
            (tells'.told back.0 back.1)) left.leaves;
      });
  asked = asks_both old.asked mid.asked new.asked (Out name) (File name) result makes.asked tells.asked;
  reads_whole = λ w w' is is' both.
      let back = makes.told w is in
      let tells' = tells_as name m.contexts (order made) makes.commits mid new result back.5.0 tells in
      let done = printed_told p m name w back.0 back.3 makes.commits back.5.1 back.5.2 back.5.3 new.world result
      (tells'.told back.0 back.1) in
      let same : prints ToOut done.printed back.0 ≡ w' = some_is _ _ (sym done.is ∙ is') in
      let left = back.5.3 in
      subst (λ (v : World). IsWhole p m makes.commits name v × IsLeftAfter EndsInSync name v) same (
        back.5.2,
        record { at = left.at; log = left.log; there = left.there; steps = left.steps; ends = left.ends },
      );
  served = served_on old mid new (Ok made) result makes.served tells.served;
}
