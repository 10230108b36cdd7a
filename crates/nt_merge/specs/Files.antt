-- Files that are read one after the other, by what they tell of their bytes.
use Rattle.std.specs.Prelude.{ℕ, ◌≡◌, ◌≤◌, List, map, Some, slice_get}
use Rattle.nt_outside.specs.File.{FileState}
use Rattle.nt_outside.specs.Faults.{Rose}

module _ {F : Type 0} (state : F → FileState) where
  -- files tell these bytes
  abbrev pub TellBytes : List F → List (List ℕ) → Type 0
  TellBytes files bytes = map (λ (f : F). (state f).bytes) files ≡ map (λ (b : List ℕ). Some b) bytes

  -- each file has the bytes that it had, and no count of faults fell
  pub record KeepFiles (old new : List F) : Type 0 where
    pub bytes : map (λ (f : F). (state f).bytes) new ≡ map (λ (f : F). (state f).bytes) old
    pub later : (k : ℕ) (before after : F) → slice_get old k ≡ Some before → slice_get new k ≡ Some after
        → (state before).faults ≤ (state after).faults

  -- the count of one of them rose
  pub record OneRose (old new : List F) : Type 0 where
    pub number : ℕ
    pub before : F
    pub after : F
    pub was : slice_get old number ≡ Some before
    pub is : slice_get new number ≡ Some after
    pub rose : Rose (state before).faults (state after).faults
