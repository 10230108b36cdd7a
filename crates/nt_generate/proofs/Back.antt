-- What is left of a host once the disk of what is made is back.
use Rattle.std.proofs.Common.{◌≡◌, ◌⊎◌, ◌∙◌, inl, inr, sym, subst, refl, ℕ, ◌<◌, ◌≤◌, List, [], ◌∷◌, ◌++◌, Option, Some}
use Rattle.std.proofs.Common.{Result, Ok, Err, arith}
use Rattle.std.specs.Prelude.{IsErrOf, ◌+◌}
use Rattle.std.proofs.lemmas.List.{append-nil}
use Rattle.nt_outside.specs.declared.fault.Refused.{Refused}
use Rattle.nt_outside.specs.declared.fault.Refused.TheVariants as refused
use Rattle.nt_outside.specs.Held.{Held, nothing_held}
use Rattle.nt_outside.specs.World.{World, Asked, Out, HostState, TakesBack, Creates, IsNewDisk, KeepsDisk}
use Rattle.nt_outside.specs.World.{creates, keeps_disk}
use Rattle.nt_outside.specs.Disk.{DiskState}
use Rattle.nt_outside.specs.Order.{EndsInSync}
use Rattle.nt_book.specs.declared.params.Params.{Params}
use Rattle.nt_close.specs.Laws.{EndsOverFirst}
use Rattle.nt_draws.specs.declared.making.Making.{Making}
use Rattle.nt_store.specs.Worlds.{AsksFirst, OthersStay, WritesInOrder, IsWrittenInOrder}
use Rattle.nt_store.specs.Writing.{HoldsNow, IsInOrderFrom}
use Rattle.nt_store.proofs.Asking.{asks_all}
use Rattle.nt_store.proofs.Ends.{stored_kept, there, file_kept, kept_open, kept_never_begun, kept_steps, others_kept}
use Rattle.nt_store.proofs.Refused.{none_made, nothing_made}
use Rattle.nt_generate.specs.declared.error.GenerateError.{GenerateError}
use Rattle.nt_generate.specs.declared.error.GenerateError.TheVariants.{Outside, Memory, Limit, Defect}
use Rattle.nt_generate.specs.Errors.{generate_refusal}
use Rattle.nt_generate.specs.Made.{IsMade}
use Rattle.nt_generate.specs.Writing.{WriteLeaves, MadeCrash, WritesMade}
use Rattle.nt_generate.specs.Leaving.{IsServed, MakeTold, LeavesMade, MadeCrashTold, MakesFile}

some_is : (a b : World) → ◌≡◌ {A = Option World} (Some a) (Some b) → a ≡ b
some_is a b e = cc

-- a disk comes back under the name that it was made for
abbrev pub ComesBack : List ℕ → World → Option World → Option Held → Type 0
ComesBack name w world held = (h : Held) → held ≡ Some h → world ≡ Some (keeps_disk name h (creates name w))

-- what is left then
abbrev pub IsBack : {V : Type 0} → (V → List ℕ) → Params → Making → List ℕ → List ℕ → World → Option World → Result V GenerateError → Type 0
IsBack order p m commits name w world result =
    (w' : World) × (world ≡ Some w') × (w'.err ≡ w.err) × (w'.out ≡ w.out) × OthersStay name w w'
    × MakeTold order p m commits name w w' result

module _ {V : Type 0} (order : V → List ℕ) (p : Params) (m : Making) (commits name : List ℕ) (w : World) (world : Option World)
    (held : Option Held) (keeps : ComesBack name w world held) where
  abbrev after : Held → World
  after h = keeps_disk name h (creates name w)

  with_told : (result : Result V GenerateError) (h : Held) → held ≡ Some h → MakeTold order p m commits name w (after h) result
      → IsBack order p m commits name w world result
  with_told result h is told = (after h, keeps h is, refl, refl, others_kept name h (creates name w), told)

  pub back_told : (result : Result V GenerateError) → WriteLeaves order p m commits held result
      → IsBack order p m commits name w world result
  back_told (Ok made) (named, (h, is, whole)) =
      with_told (Ok made) h is (
        named,
        refl,
        there (IsMade p m commits) _ h.image (file_kept name h (creates name w)) whole.0,
        kept_steps EndsInSync name h (creates name w) whole.1,
      )
  back_told (Err Outside) (h, is, inl begins) =
      with_told (Err Outside) h is (inr (refl, inl (kept_open name h (creates name w) begins)))
  back_told (Err Outside) (h, is, inr (inl never)) =
      with_told (Err Outside) h is (inr (refl, inr (inl (kept_never_begun name h (creates name w) never))))
  back_told (Err Outside) (h, is, inr (inr whole)) =
      with_told (Err Outside) h is (inr (
        refl,
        inr (inr (
          there (IsMade p m commits) _ h.image (file_kept name h (creates name w)) whole.0,
          kept_steps EndsOverFirst name h (creates name w) whole.1,
        )),
      ))
  back_told (Err Memory) (h, is, begins) = with_told (Err Memory) h is (inr (refl, kept_open name h (creates name w) begins))
  back_told (Err (Limit reached most)) (passes, (h, is, begins)) =
      with_told (Err (Limit reached most)) h is (passes, (refl, kept_open name h (creates name w) begins))
  back_told (Err (Defect e)) left = absurd left

module _ (p : Params) (m : Making) (commits name : List ℕ) (w : World) (world : Option World) (held : Option Held)
    (keeps : ComesBack name w world held) where
  abbrev later : Held → World
  later h = keeps_disk name h (creates name w)

  -- its steps are in order
  pub back_in_order : (old : Option World) (disk : Option Held) → disk ≡ Some nothing_held → IsInOrderFrom nothing_held disk held
      → WritesInOrder name old world
  back_in_order old disk empty order v v' is is' made =
      let kept = order empty in
      let same : later kept.0 ≡ v' = some_is _ _ (sym (keeps kept.0 kept.1) ∙ is') in
      subst (IsWrittenInOrder name) same (record {
        at = record { bytes = kept.0.image; log = Some kept.0.log };
        log = kept.0.log;
        there = stored_kept (creates name w).files name (record { bytes = kept.0.image; log = Some kept.0.log });
        steps = refl;
        order = kept.2;
      })

  -- and this is what a crash leaves
  pub back_crash : {V : Type 0} (result : Result V GenerateError) → HoldsNow held (λ h. MadeCrash (IsMade p m commits) h.log result)
      → (v' : World) → world ≡ Some v' → LeavesMade name p m commits v' result
  back_crash result crash v' is' =
      let same : later crash.0 ≡ v' = some_is _ _ (sym (keeps crash.0 crash.1) ∙ is') in
      subst (λ (v : World). LeavesMade name p m commits v result) same (record {
        at = record { bytes = crash.0.image; log = Some crash.0.log };
        log = crash.0.log;
        there = stored_kept (creates name w).files name (record { bytes = crash.0.image; log = Some crash.0.log });
        steps = refl;
        leaves = crash.2;
      })

-- no disk was made, and all stays
pub unmade_told : {V : Type 0} (order : V → List ℕ) (p : Params) (m : Making) (commits name : List ℕ) (w : World) (world : Option World)
    (r : Refused) → world ≡ Some w → IsBack order p m commits name w world (Err (generate_refusal r))
unmade_told order p m commits name w world refused.Failed is = (w, is, refl, refl, λ other differs. refl, inl (refl, refl))
unmade_told order p m commits name w world refused.Memory is = (w, is, refl, refl, λ other differs. refl, inl (refl, refl))

pub unmade_crash : {V : Type 0} (name : List ℕ) (p : Params) (m : Making) (commits : List ℕ) (old new : Option World)
    (result : Result V GenerateError) → new ≡ old → MadeCrashTold name p m commits old new result
unmade_crash name p m commits old new result stays w w' is is' made = absurd (none_made name old new stays w w' is is' made)

-- memory was wanting before anything was asked for
pub nothing_done : {V : Type 0} (order : V → List ℕ) (p : Params) (m : Making) (name : List ℕ) (host : HostState)
    → MakesFile order name p m host host (Err Memory)
nothing_done {V} order p m name host = record {
  commits = [];
  told = λ w is. unmade_told order p m [] name w host.world refused.Memory is;
  order_kept = nothing_made name host.world host.world refl;
  crash = unmade_crash name p m [] host.world host.world (Err Memory) refl;
  asked = (0, sym (append-nil host.asked));
  served = record {
    later = omega arith;
    failed = λ is. absurd (cc is);
    back = record { err_faults = refl; opened = omega arith };
  };
}

-- the disk was refused: it was asked for, or memory was wanting for its name
pub asks_refused : {T : Type 0} (r : Refused) (old new : List Asked) (a : Asked)
    → (IsErrOf {T = T} (Err r) refused.Failed → new ≡ old ++ a ∷ [])
    → (IsErrOf {T = T} (Err r) refused.Memory → (new ≡ old) ⊎ (new ≡ old ++ a ∷ [])) → AsksFirst (a ∷ []) old new
asks_refused refused.Failed old new a failed memory = (1, failed refl)
asks_refused refused.Memory old new a failed memory = elim (memory refl) [
  | inl stays ↦ (0, stays ∙ sym (append-nil old))
  | inr asked ↦ (1, asked)
]

-- a refusal is a failure only where the outside failed
pub refused_fails : {T V : Type 0} (r : Refused) → IsErrOf {T = V} (Err (generate_refusal r)) Outside
    → IsErrOf {T = T} (Err r) refused.Failed
refused_fails refused.Failed is = refl
refused_fails refused.Memory is = absurd (cc is)

-- a disk was made, and is back
pub served_back : {V : Type 0} (old mid new : HostState) (disk : ℕ) (result : Result V GenerateError) → old.faults ≤ mid.faults
    → mid.err_faults ≡ old.err_faults → mid.opened ≡ old.opened + 1 → TakesBack disk mid new
    → (IsErrOf result Outside → 0 < disk) → IsServed old new result
served_back old mid new disk result later err_faults opened back failed = record {
  later = omega (arith, later, back.faults_taken.later);
  failed = λ is. let some = failed is in omega (arith, later, back.faults_taken.sum, some);
  back = record { err_faults = back.err_faults ∙ err_faults; opened = omega (arith, opened, back.opened) };
}

-- it was written meanwhile
pub made_back : {V T : Type 0} (order : V → List ℕ) (p : Params) (m : Making) (name : List ℕ) (old mid new : HostState) (made : T)
    (disk disk' : DiskState) (result : Result V GenerateError) → Creates name old mid (Ok made) → IsNewDisk old.world disk
    → WritesMade order p m disk disk' result → KeepsDisk disk' mid new → MakesFile order name p m old new result
made_back order p m name old mid new made disk disk' result begun fresh wrote kept =
    let keeps : (w : World) → old.world ≡ Some w → ComesBack name w new.world disk'.held =
    λ w is h held. kept.world name h (creates name w) (begun.ok w is) refl held in
    record {
      commits = wrote.commits;
      told = λ w is. back_told order p m wrote.commits name w new.world disk'.held (keeps w is) result (wrote.left (fresh.held w is));
      order_kept = λ w w' is is' made-disk.
          back_in_order p m wrote.commits name w new.world disk'.held (keeps w is) old.world disk.held (fresh.held w is) wrote.order_kept w
          w' is is' made-disk;
      crash = λ w w' is is' made-disk.
          back_crash p m wrote.commits name w new.world disk'.held (keeps w is) result (wrote.crash (fresh.held w is)) w' is';
      asked = asks_all result old.asked new.asked (Out name ∷ []) (kept.back.asked ∙ begun.asks.ok);
      served = served_back old mid new disk'.faults result begun.asks.cause.later begun.asks.err_faults begun.asks.opened kept.back
          wrote.failed;
    }

-- it was refused
pub made_none : {V T : Type 0} (order : V → List ℕ) (p : Params) (m : Making) (name : List ℕ) (old new : HostState) (r : Refused)
    → Creates {T = T} name old new (Err r) → MakesFile order name p m old new (Err (generate_refusal r))
made_none order p m name old new r begun = record {
  commits = [];
  told = λ w is. unmade_told order p m [] name w new.world r (begun.err ∙ is);
  order_kept = nothing_made name old.world new.world begun.err;
  crash = unmade_crash name p m [] old.world new.world (Err (generate_refusal r)) begun.err;
  asked = asks_refused r old.asked new.asked (Out name) begun.asks.failed begun.asks.memory;
  served = record {
    later = begun.asks.cause.later;
    failed = λ is. begun.asks.cause.failed (refused_fails r is);
    back = record { err_faults = begun.asks.err_faults; opened = omega (arith, begun.asks.refused) };
  };
}
