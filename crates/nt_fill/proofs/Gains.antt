-- What a pass has gained, and which ranges it has out.
use Rattle.std.proofs.Common.{◌≡◌, ◌∙◌, ap, sym, ℕ, Bool, false, true, List, [], ◌∷◌, ◌++◌, subst}
use Rattle.std.proofs.Common.{append_assoc, append-nil}
use Rattle.std.proofs.lemmas.Grind.{flat_map-append}
use mathlib.Core.List.{IsPrefix}
use Rattle.nt_turn.specs.Pass.{PassState}
use Rattle.nt_turn.proofs.Prefixes.{prefix_more}
use Rattle.nt_machine.specs.Deal.{times}
use Rattle.nt_machine.specs.declared.entry.Entry.{Entry}
use Rattle.nt_machine.specs.History.{Fate, Spoiled, publisher, publishers_of}
use Rattle.nt_book.specs.declared.meta.ClusterMeta.{ClusterMeta}
use Rattle.nt_commit.specs.declared.locked.Birth.{Birth}
use Rattle.nt_fill.specs.Passes.{gained, Gains, IsUnpublished, MeetsFault, SpoilsRange}
use Rattle.nt_fill.proofs.Ranges.{HoldsOfAll, new_entry, spoiled_in, faulted_in}

abbrev pub Pass : Type 0 → Type 0
Pass D = PassState (Entry ClusterMeta) (Birth D)

pub prefix_then : (xs ys zs : List (Entry ClusterMeta)) → IsPrefix xs ys → IsPrefix ys zs → IsPrefix xs zs
prefix_then xs ys zs p q = subst (λ (l : List (Entry ClusterMeta)). IsPrefix xs l) q.1 (prefix_more xs ys q.0 p)

module _ {D : Type 0} where
  -- two gains are one
  pub gains_twice : (one two : List (Entry ClusterMeta)) (old mid new : Pass D) → Gains one old mid → Gains two mid new
      → Gains (one ++ two) old new
  gains_twice one two old mid new g h = record {
    seen = prefix_then old.seen mid.seen new.seen g.seen h.seen;
    now = h.now ∙ (ap (λ (p : Pass D). gained p new.seen two) g.now ∙ ap (λ (l : List (Entry ClusterMeta)). record old {
      seen = new.seen;
      own = l;
    }) (append_assoc old.own one two));
  }

  pub own_after : (added : List (Entry ClusterMeta)) (old new : Pass D) → Gains added old new → new.own ≡ old.own ++ added
  own_after added old new g = ap (λ (p : Pass D). p.own) g.now

  pub number_after : (added : List (Entry ClusterMeta)) (old new : Pass D) → Gains added old new → new.number ≡ old.number
  number_after added old new g = ap (λ (p : Pass D). p.number) g.now

  module _ (P : Fate → Type 0) where
    pub all_after : (added : List (Entry ClusterMeta)) (old new : Pass D) → Gains added old new → HoldsOfAll P (old.own ++ added)
        → HoldsOfAll P new.own
    all_after added old new g all = subst (λ (l : List (Entry ClusterMeta)). HoldsOfAll P l) (sym (own_after added old new g)) all

    -- a fault changes no range
    pub fault_in : (old new : Pass D) → HoldsOfAll P old.own → MeetsFault old new → HoldsOfAll P new.own
    fault_in old new all f = all_after _ old new f.gains (faulted_in P old.own old.number f.faults all)

    pub spoil_in : (staged : Bool) (meta : ClusterMeta) (old new : Pass D) → ((faults : ℕ) → P (Spoiled faults)) → HoldsOfAll P old.own
        → SpoilsRange staged meta old new → HoldsOfAll P new.own
    spoil_in staged meta old new back all s =
        all_after _ old new s.gains
        (spoiled_in P staged old.own old.number s.cluster s.start meta.len meta s.faults (back s.faults) all)

    pub kept_in : (old new : Pass D) → HoldsOfAll P old.own → Gains [] old new → HoldsOfAll P new.own
    kept_in old new all g =
        all_after [] old new g (subst (λ (l : List (Entry ClusterMeta)). HoldsOfAll P l) (sym (append-nil old.own)) all)

  -- what publishes nothing leaves a pass unpublished
  pub unpublished_after : (staged : Bool) (added : List (Entry ClusterMeta)) (old new : Pass D) → Gains added old new
      → publishers_of added ≡ [] → IsUnpublished staged old → IsUnpublished staged new
  unpublished_after staged added old new g none before = λ is.
      let publishers : publishers_of new.own ≡ publishers_of old.own =
      ap (λ (l : List (Entry ClusterMeta)). publishers_of l) (own_after added old new g)
      ∙ (flat_map-append (λ (e : Entry ClusterMeta). publisher e.context e.kind) old.own added
      ∙ (ap (λ (l : List ℕ). publishers_of old.own ++ l) none ∙ append-nil (publishers_of old.own))) in
      ap (λ (i : ℕ). times i (publishers_of new.own)) (number_after added old new g)
      ∙ (ap (λ (l : List ℕ). times old.number l) publishers ∙ before is)

-- the entry of a range publishes nothing
pub none_published : (staged : Bool) (i n start len : ℕ) (meta : ClusterMeta) (e : Entry ClusterMeta) → publisher e.context e.kind ≡ []
    → publishers_of (new_entry staged i n start len meta ∷ e ∷ []) ≡ []
none_published false i n start len meta e none = ap (λ (l : List ℕ). l ++ []) none
none_published true i n start len meta e none = ap (λ (l : List ℕ). l ++ []) none
