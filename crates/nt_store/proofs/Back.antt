-- Texts that come back one after the other.
use Rattle.std.proofs.Common.{◌≡◌, ◌∙◌, inl, inr, refl, subst, ◌<◌, ◌≤◌, List, [], ◌∷◌, length, map, get_or, arith}
use Rattle.std.specs.List.{remove}
use Rattle.nt_outside.specs.Faults.{Rose, TakesIn}
use Rattle.nt_outside.specs.Source.{SourceState}
use Rattle.nt_outside.specs.World.{HostState, TakesBack}
use Rattle.nt_store.specs.Worlds.{SomeFailed, PutsTexts}

-- none
pub none_back : (host : HostState) → PutsTexts [] host host
none_back host = record {
  world = refl;
  asked = refl;
  later = omega arith;
  failed = λ bad. absurd bad;
  err_faults = refl;
  opened = omega arith;
}

rose_by : (text : SourceState) (texts : List SourceState) (old mid new : HostState) → TakesIn old.faults mid.faults text.faults
    → mid.faults ≤ new.faults → (SomeFailed texts → Rose mid.faults new.faults) → SomeFailed (text ∷ texts) → Rose old.faults new.faults
rose_by text texts old mid new taken later others (inl failed) = omega (arith, taken.sum, taken.later)
rose_by text texts old mid new taken later others (inr some) =
    let rose = others some in
    omega (arith, taken.later, rose)

-- one, and then the others
pub one_back : (text : SourceState) (texts : List SourceState) (old mid new : HostState) → TakesBack text.faults old mid
    → mid.world ≡ old.world → PutsTexts texts mid new → PutsTexts (text ∷ texts) old new
one_back text texts old mid new back world others = record {
  world = others.world ∙ world;
  asked = others.asked ∙ back.asked;
  later = omega (arith, back.faults_taken.later, others.later);
  failed = rose_by text texts old mid new back.faults_taken others.later others.failed;
  err_faults = others.err_faults ∙ back.err_faults;
  opened = omega (arith, others.opened, back.opened);
}

-- the first of a list, and then the others
pub first_back : {T : Type 0} (state : T → SourceState) (items rest : List T) (x : T) (old mid new : HostState) → 0 < length items
    → x ≡ get_or items 0 x → rest ≡ remove items 0
    → TakesBack (state x).faults old mid → mid.world ≡ old.world → PutsTexts (map state rest) mid new → PutsTexts (map state items) old new
first_back state [] rest x old mid new some is left back world others = absurd (omega arith)
first_back state (y ∷ items) rest x old mid new some is left back world others =
    one_back (state y) (map state items) old mid new (subst (λ z. TakesBack (state z).faults old mid) is back) world
    (subst (λ l. PutsTexts (map state l) mid new) left others)

-- no list is left
pub nothing_left : {T : Type 0} (state : T → SourceState) (items : List T) (host : HostState) → length items ≡ 0
    → PutsTexts (map state items) host host
nothing_left state [] host none = none_back host
nothing_left state (y ∷ items) host none = absurd (omega arith)
