-- What is told of the totals of a file that was made.
use Rattle.std.proofs.Common.{◌≡◌, ◌∙◌, inl, inr, ap, sym, subst, refl, ℕ, List, take, drop, Option, Some, None, Result, Ok}
use Rattle.std.proofs.Common.{Err, ◌<◌, arith}
use Rattle.std.specs.Prelude.{IsErrOf, IsSome}
use Rattle.std.proofs.lemmas.List.{take-append-drop}
use Rattle.nt_outside.specs.declared.stream.Stream.TheVariants.{ToOut}
use Rattle.nt_outside.specs.World.{World, HostState, File, Opens, IsOpenFile, TakesBack, file, prints}
use Rattle.nt_tfile.specs.declared.failure.ReadFailure.{ReadFailure}
use Rattle.nt_tfile.specs.declared.failure.ReadFailure.TheVariants as read
use Rattle.nt_outside.specs.declared.fault.Refused.{Refused}
use Rattle.nt_outside.specs.declared.fault.Refused.TheVariants as refused
use Rattle.nt_outside.specs.Faults.{Rose}
use Rattle.nt_outside.specs.File.{FileState}
use Rattle.nt_tfile.specs.Calls.{IsReadOrFails, ReadsFile, Serves}
use Rattle.nt_generate.specs.declared.total.Total.{Total}
use Rattle.nt_generate.specs.Lines.{total_lines}
use Rattle.nt_generate.specs.ReadTotals.{totals_in}
use Rattle.nt_store.specs.Worlds.{IsThereWith}
use Rattle.nt_generate.specs.declared.error.GenerateError.{GenerateError}
use Rattle.nt_generate.specs.declared.error.GenerateError.TheVariants.{Outside, Memory, Limit, Defect}
use Rattle.nt_generate.specs.Errors.{generate_refusal, generate_failure}
use Rattle.nt_generate.specs.Leaving.{ReadTold, ReadsTotals, TellTold, TellsTotals, PrintsTotalsFront}
use Rattle.nt_generate.proofs.Back.{asks_refused, refused_fails, served_back}

-- what is there in one form is so in another
pub there_as : (P Q : List ℕ → Type 0) (found : Option (List ℕ)) → ((bytes : List ℕ) → P bytes → Q bytes) → IsThereWith P found
    → IsThereWith Q found
there_as P Q None turn is = is
there_as P Q (Some bytes) turn is = turn bytes is

-- what is read of a file that is there
pub read_told : {V : Type 0} (totals : V → List Total) (contexts : ℕ) (order bytes : List ℕ) (found : Option (List ℕ)) (value : V)
    → found ≡ Some bytes → IsReadOrFails totals (Ok value) (totals_in contexts order bytes)
    → ReadTold totals contexts order found (Ok value)
read_told totals contexts order bytes found value is reads =
    subst (λ (o : Option (List ℕ)). ReadTold totals contexts order o (Ok value)) (sym is) reads

pub unread_told : {V : Type 0} (totals : V → List Total) (contexts : ℕ) (order bytes : List ℕ) (found : Option (List ℕ)) (f : ReadFailure)
    → found ≡ Some bytes → IsReadOrFails totals (Err f) (totals_in contexts order bytes)
    → ReadTold totals contexts order found (Err (generate_failure f))
unread_told totals contexts order bytes found (read.Defect e) is reads =
    subst (λ (o : Option (List ℕ)). ReadTold totals contexts order o (Err (Defect e))) (sym is) reads
unread_told totals contexts order bytes found read.Fault is reads = tt
unread_told totals contexts order bytes found read.Memory is reads = tt

-- totals that weren't read
none_at : {V : Type 0} (totals : V → List Total) (contexts : ℕ) (order : List ℕ) (found : Option (List ℕ)) (w : World)
    (new : Option World) (e : GenerateError) → ReadTold totals contexts order found (Err e) → new ≡ Some w
    → TellTold contexts order found w new (Err e)
none_at totals contexts order found w new Outside told is = inl is
none_at totals contexts order found w new Memory told is = inl is
none_at totals contexts order found w new (Defect e) told is = (told, is)
none_at totals contexts order found w new (Limit reached most) told is = absurd told

pub none_told : {V : Type 0} (totals : V → List Total) (name : List ℕ) (contexts : ℕ) (order : List ℕ) (old new : HostState)
    (e : GenerateError) → ReadsTotals totals name contexts order old new (Err e) → (w : World) → old.world ≡ Some w
    → TellTold contexts order (file w name) w new.world (Err e)
none_told totals name contexts order old new e reads w is =
    none_at totals contexts order (file w name) w new.world e (reads.told w is) (reads.world ∙ is)

module _ (contexts : ℕ) (order : List ℕ) (found : Option (List ℕ)) (w : World) (new : Option World) where
  -- those of which a front was printed
  pub front_told : (totals : List Total) (text : List ℕ) (n : ℕ) → IsThereWith (λ bytes. totals_in contexts order bytes ≡ Ok totals) found
      → text ≡ total_lines totals → new ≡ Some (prints ToOut (take n text) w) → PrintsTotalsFront contexts order found w new
  front_told totals text n there text-is is =
      inr (there_as _ _ found
      (λ bytes reads. (totals, take n text, drop n text, reads, is, sym text-is ∙ sym (take-append-drop n text))) there)

  -- and all
  pub all_told : (totals : List Total) (text : List ℕ) → IsThereWith (λ bytes. totals_in contexts order bytes ≡ Ok totals) found
      → text ≡ total_lines totals → new ≡ Some (prints ToOut text w) → TellTold contexts order found w new (Ok tt)
  all_told totals text there text-is is =
      there_as _ _ found
      (λ bytes reads. (totals, reads, is ∙ ap (λ (l : List ℕ). Some (prints ToOut l w)) text-is)) there

there_is : (found : Option (List ℕ)) → IsSome found → (text : List ℕ) × (found ≡ Some text)
there_is None some = absurd (cc)
there_is (Some text) some = (text, refl)

-- a file that was opened and read
pub opened_told : {V : Type 0} (totals : V → List Total) (contexts : ℕ) (order : List ℕ) (found : Option (List ℕ)) (f : FileState)
    (r : Result V ReadFailure) (value : V) → r ≡ Ok value → IsSome found × (f.bytes ≡ found)
    → ReadsFile totals (totals_in contexts order) f r → ReadTold totals contexts order found (Ok value)
opened_told {V} totals contexts order found f r value is opened reads =
    let text = there_is found opened.0 in
    read_told totals contexts order text.0 found value text.1
    (subst (λ (o : Result V ReadFailure). IsReadOrFails totals o (totals_in contexts order text.0)) is
    (reads text.0 (opened.1 ∙ text.1)))

-- or not read
pub unopened_told : {V : Type 0} (totals : V → List Total) (contexts : ℕ) (order : List ℕ) (found : Option (List ℕ)) (f : FileState)
    (r : Result V ReadFailure) (e : ReadFailure) → r ≡ Err e → IsSome found × (f.bytes ≡ found)
    → ReadsFile totals (totals_in contexts order) f r → ReadTold totals contexts order found (Err (generate_failure e))
unopened_told {V} totals contexts order found f r e is opened reads =
    let text = there_is found opened.0 in
    unread_told totals contexts order text.0 found e text.1
    (subst (λ (o : Result V ReadFailure). IsReadOrFails totals o (totals_in contexts order text.0)) is
    (reads text.0 (opened.1 ∙ text.1)))

-- a reading fails only where the file did
pub failure_fails : {V W : Type 0} (r : Result W ReadFailure) (e : ReadFailure) (faults faults' : ℕ) → r ≡ Err e
    → (IsErrOf r read.Fault → Rose faults faults') → IsErrOf {T = V} (Err (generate_failure e)) Outside → 0 < faults'
failure_fails {V} {W} r read.Fault faults faults' is fails outside =
    let rose = fails (subst (λ (o : Result W ReadFailure). IsErrOf o read.Fault) (sym is) refl) in
    omega (arith, rose)
failure_fails r read.Memory faults faults' is fails outside = absurd (cc outside)
failure_fails r (read.Defect e) faults faults' is fails outside = absurd (cc outside)

-- nothing was opened
pub refused_told : {V : Type 0} (totals : V → List Total) (contexts : ℕ) (order : List ℕ) (found : Option (List ℕ)) (r : Refused)
    → ReadTold totals contexts order found (Err (generate_refusal r))
refused_told totals contexts order found refused.Failed = tt
refused_told totals contexts order found refused.Memory = tt

-- a file was opened, read and returned
pub read_back : {V T : Type 0} (totals : V → List Total) (name : List ℕ) (contexts : ℕ) (order : List ℕ) (old mid new : HostState)
    (opened : T) (f : FileState) (faults : ℕ) (r : Result V ReadFailure) (value : V) → r ≡ Ok value → Opens (File name) old mid (Ok opened)
    → IsOpenFile old.world name f → ReadsFile totals (totals_in contexts order) f r → TakesBack faults mid new → new.world ≡ mid.world
    → ReadsTotals totals name contexts order old new (Ok value)
read_back totals name contexts order old mid new opened f faults r value is opens at reads back world = record {
  told = λ w held. opened_told totals contexts order (file w name) f r value is (at.bytes w held) reads;
  world = world ∙ opens.world;
  asked = back.asked ∙ opens.asks.ok;
  served = served_back old mid new faults (Ok value) opens.asks.cause.later opens.asks.err_faults opens.asks.opened back
      (λ bad. absurd (cc bad));
}

-- or not read
pub unread_back : {V T : Type 0} (totals : V → List Total) (name : List ℕ) (contexts : ℕ) (order : List ℕ) (old mid new : HostState)
    (opened : T) (f f' : FileState) (r : Result V ReadFailure) (e : ReadFailure) → r ≡ Err e → Opens (File name) old mid (Ok opened)
    → IsOpenFile old.world name f → ReadsFile totals (totals_in contexts order) f r → Serves f f' r → TakesBack f'.faults mid new
    → new.world ≡ mid.world → ReadsTotals totals name contexts order old new (Err (generate_failure e))
unread_back totals name contexts order old mid new opened f f' r e is opens at reads serves back world = record {
  told = λ w held. unopened_told totals contexts order (file w name) f r e is (at.bytes w held) reads;
  world = world ∙ opens.world;
  asked = (1, back.asked ∙ opens.asks.ok);
  served = served_back old mid new f'.faults (Err (generate_failure e)) opens.asks.cause.later opens.asks.err_faults opens.asks.opened back
      (failure_fails r e f.faults f'.faults is serves.fault);
}

-- or not opened
pub unopened_back : {V T : Type 0} (totals : V → List Total) (name : List ℕ) (contexts : ℕ) (order : List ℕ) (old new : HostState)
    (r : Refused) → Opens {T = T} (File name) old new (Err r) → ReadsTotals totals name contexts order old new (Err (generate_refusal r))
unopened_back totals name contexts order old new r opens = record {
  told = λ w held. refused_told totals contexts order (file w name) r;
  world = opens.world;
  asked = asks_refused r old.asked new.asked (File name) opens.asks.failed opens.asks.memory;
  served = record {
    later = opens.asks.cause.later;
    failed = λ is. opens.asks.cause.failed (refused_fails r is);
    back = record { err_faults = opens.asks.err_faults; opened = omega (arith, opens.asks.refused) };
  };
}

-- the same of an order that is this one
pub tells_as : (name : List ℕ) (contexts : ℕ) (named order : List ℕ) (old new : HostState) (result : Result Unit GenerateError)
    → named ≡ order → TellsTotals name contexts named old new result → TellsTotals name contexts order old new result
tells_as name contexts named order old new result is tells =
    subst (λ (l : List ℕ). TellsTotals name contexts l old new result) is tells
