-- A disk with its new book.
use Rattle.std.proofs.Common.{◌≡◌, ◌∙◌, ap, sym, refl, subst, ℕ, ◌≤◌, List, [], Option, Some, None, arith, append-nil}
use Rattle.std.specs.Prelude.{IfSome}
use Rattle.std.specs.List.{AllByRecursion}
use Rattle.nt_outside.specs.Held.{Held}
use Rattle.nt_outside.specs.Disk.{DiskState}
use Rattle.nt_machine.specs.declared.entry.Entry.{Entry}
use Rattle.nt_machine.specs.History.{Cluster, ranges_of}
use Rattle.nt_machine.specs.Legal.{end_after}
use Rattle.nt_book.specs.declared.list.NotedList.{NotedList}
use Rattle.nt_book.specs.declared.list.Tear.{Tear}
use Rattle.nt_book.specs.declared.meta.ClusterMeta.{ClusterMeta}
use Rattle.nt_book.specs.Books.{BookData}
use Rattle.nt_book.specs.Listing.{group_size, lists_bytes, torn_bytes}
use Rattle.nt_pagelists.specs.Due.{group_sum}
use Rattle.nt_logged.specs.Steps.{told_history}
use Rattle.nt_logged.proofs.Growing.{log-fresh}
use Rattle.nt_commit.specs.Lists.{AreNoted, IsTornList, torn_lens}
use Rattle.nt_commit.specs.Locked.{EndWithin, IsDiskAfter, IsInStep, IsNewBookOn, history_of_locked}
use Rattle.nt_commit.proofs.Standing.{locked_of}

told-nothing : (begun now : Option Held) → told_history {M = ClusterMeta} begun now [] ≡ []
told-nothing None now = refl
told-nothing (Some h) None = refl
told-nothing (Some h) (Some h') = refl

module _ {D : Type 0} (state : D → DiskState) (d : D) (contexts : ℕ) (b : BookData) (new : IsNewBookOn (state d) b) where
  nothing : history_of_locked state (locked_of d d contexts b) ≡ []
  nothing = ap (λ (l : List (Entry ClusterMeta)). told_history (state d).held (state d).held l) new.history
      ∙ told-nothing (state d).held (state d).held

  follows_nothing : IsDiskAfter {M = ClusterMeta} (state d) (state d) contexts [] [] []
  follows_nothing = record {
    legal = tt;
    contexts_are = tt;
    roomy = tt;
    out = new.out;
    log = λ h is. (h, is, record { steps = []; log = sym (append-nil h.log); is_log = log-fresh (state d).end });
    told = λ h is. tt;
    rise = omega arith;
  }

  new_in_step : IsInStep state (locked_of d d contexts b)
  new_in_step = record {
    begin = new.end;
    limits = refl;
    columns = refl;
    firsts = refl;
    group = refl;
    staged = refl;
    end = omega (
      arith,
      new.end,
      ap (λ (l : List (Entry ClusterMeta)). end_after b.begin (ranges_of l)) new.history,
      ap lists_bytes new.unlisted.none_noted,
      ap torn_bytes new.unlisted.none_torn,
    );
    lists = [];
    torn = [];
    follows = subst (λ (l : List (Entry ClusterMeta)). IsDiskAfter (state d) (state d) contexts l [] []) (sym nothing) follows_nothing;
    listed = record {
      noted = subst (λ (l : List NotedList). AreNoted (group_sum b.group) (group_size b.group) b 0 l []) (sym new.unlisted.none_noted) tt;
      behind = tt;
      short = subst (λ (l : List NotedList). AllByRecursion (λ (k : NotedList). k.len ≤ b.limits.range) l) (sym new.unlisted.none_noted) tt;
      torn_is = sym (ap torn_lens new.unlisted.none_torn);
      torn_short = subst (λ (o : Option Tear). IfSome o (λ t. IsTornList b t)) (sym new.unlisted.none_torn) tt;
    };
    ungrouped = λ none. new.unlisted;
    whole = λ sound. new.unlisted.none_torn;
    short = subst (λ (l : List (Entry ClusterMeta)). AllByRecursion (λ (c : Cluster ClusterMeta). c.len ≤ b.limits.range) (ranges_of l))
        (sym nothing) tt;
    within = subst (λ (l : List (Entry ClusterMeta)). EndWithin b.limits (state d).end (ranges_of l)) (sym nothing) (record {
      file = λ some. absurd (omega (arith, some));
      few = omega arith;
    });
  }

  -- they are in step
  pub fresh : (begun : D) → begun ≡ d → IsInStep state (locked_of begun d contexts b)
  fresh begun is = subst (λ (x : D). IsInStep state (locked_of x d contexts b)) (sym is) new_in_step
