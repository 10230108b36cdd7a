-- Contexts as the jobs of workers.
use Rattle.std.specs.Prelude.{◌≡◌, List, map}
use Rattle.nt_contexts.specs.declared.seats.Context.{Context}
use Rattle.nt_contexts.specs.declared.shared.Shared.{Shared}

module _ {C T G : Type 0} where
  -- the seats of these contexts
  abbrev pub seats_in : List (Context C T G) → List T
  seats_in contexts = map (λ (c : Context C T G). c.seat) contexts

  -- the context is of this committer, and shares this
  pub record IsContextOf (committer : C) (shared : Shared G) (c : Context C T G) : Type 0 where
    pub committer_is : c.committer.now ≡ committer
    pub shared_is : c.shared.now ≡ shared
