-- What a message on err leaves of what a command that writes a file left.
use Rattle.std.proofs.Common.{◌≡◌, ◌∙◌, ap, sym, subst, ℕ, List, [], ◌∷◌, ◌++◌, take, Option, Some, arith}
use Rattle.nt_lists.proofs.Variants.{some_is}
use Rattle.nt_outside.specs.declared.stream.Stream.TheVariants.{ToErr}
use Rattle.nt_outside.specs.Faults.{Rose}
use Rattle.nt_outside.specs.World.{World, HostState, prints}
use Rattle.nt_store.specs.Worlds.{LeavesOut, OthersStay, MakesDisk, IsWrittenInOrder, WritesInOrder}
use Rattle.nt_app.specs.Reports.{SaysOnErr, Reports}
use Rattle.nt_app.proofs.Joined.{either_after}

-- what a command leaves that writes the file of this name, by what it tells of the world before and after
pub record LeavesFile (out : List ℕ) (Told : World → World → Type 0) (old mid : HostState) : Type 0 where
  pub told : (w : World) → old.world ≡ Some w
      → (v : World) × (mid.world ≡ Some v) × (v.err ≡ w.err) × OthersStay out w v × Told w v
  pub order : WritesInOrder out old.world mid.world
  pub back : LeavesOut 0 old mid

-- and once its message is printed
pub record LeavesReported (out message : List ℕ) (Told : World → World → Type 0) (old new : HostState) : Type 0 where
  pub told : (w : World) → old.world ≡ Some w
      → (v : World) × (new.world ≡ Some v) × SaysOnErr message old new w v × OthersStay out w v × Told w v
  pub order : WritesInOrder out old.world new.world
  pub opened : new.opened ≡ old.opened

-- what is printed on err leaves this as it is
abbrev pub Keeps : (World → World → Type 0) → Type 0
Keeps P = (w v : World) (err : List ℕ) → P w v → P w (record v { err = err })

-- a command that made a disk, before its message was printed
record IsBefore (name : List ℕ) (mid : Option World) (w w' : World) : Type 0 where
  pub v : World
  pub is : mid ≡ Some v
  pub err : List ℕ
  pub same : record v { err = err } ≡ w'
  pub made : MakesDisk name w v

module _ (out message : List ℕ) (Told : World → World → Type 0) (old mid new : HostState) (left : LeavesFile out Told old mid)
    (reports : Reports message mid new) where
  -- what is printed on err makes no disk
  before : (w w' : World) → old.world ≡ Some w → new.world ≡ Some w' → MakesDisk out w w' → IsBefore out mid.world w w'
  before w w' is is' made =
      let done = left.told w is in
      let said = reports.told done.0 done.1 in
      let same : prints ToErr (take said.0 message) done.0 ≡ w' = some_is _ _ (sym said.1 ∙ is') in
      record {
        v = done.0;
        is = done.1;
        err = done.0.err ++ take said.0 message;
        same = same;
        made = subst (λ (v : World). v.created ≡ w.created ++ out ∷ []) (sym same) made;
      }

  -- so what holds of the file where a disk was made holds of it then
  pub made_reported : (P : World → World → Type 0) → Keeps P
      → ((w v : World) → old.world ≡ Some w → mid.world ≡ Some v → MakesDisk out w v → P w v)
      → (w v : World) → old.world ≡ Some w → new.world ≡ Some v → MakesDisk out w v → P w v
  made_reported P keeps holds w v is is' made =
      let b = before w v is is' made in
      subst (P w) b.same (keeps w b.v b.err (holds w b.v is b.is b.made))

  -- and all that was told
  pub left_reported : Keeps Told → LeavesReported out message Told old new
  left_reported keeps = record {
    told = λ w is.
        let done = left.told w is in
        let said = reports.told done.0 done.1 in (
          _,
          said.1,
          (
            said.0,
            ap (λ (l : List ℕ). l ++ take said.0 message) done.2,
            either_after old mid new said.0 message left.back.err_faults said.2,
          ),
          done.3,
          keeps w done.0 (done.0.err ++ take said.0 message) done.4,
        );
    order = made_reported (λ w v. IsWrittenInOrder out v) (λ w v err told.
        record { at = told.at; log = told.log; there = told.there; steps = told.steps; order = told.order }) left.order;
    opened = reports.opened ∙ left.back.opened ∙ omega arith;
  }

-- a failure of a command is one behind its message too
pub rose_reported : (message : List ℕ) (old mid new : HostState) → Reports message mid new → Rose old.faults mid.faults
    → Rose old.faults new.faults
rose_reported message old mid new reports rose = subst (λ (n : ℕ). Rose old.faults n) (sym reports.faults) rose
