-- The clusters of a book are the chunks of its contexts, and the disk holds their blobs, with the page lists of full groups between them.
use Rattle.std.proofs.Common.{◌≡◌, ℕ, Bool, true, List, [], ◌∷◌, ◌++◌, length, map, Option, Some, None, refl, sym, ap, ◌∙◌, subst}
use Rattle.std.specs.List.{AllZip, concat}
use Rattle.nt_lists.specs.Parts.{Part, part_bytes}
use Rattle.nt_types.specs.TreeData.{TreesData}
use Rattle.nt_grammar.specs.Table.{Table}
use Rattle.nt_outside.specs.Held.{Held}
use Rattle.nt_outside.specs.Log.{Step}
use Rattle.nt_outside.specs.Reads.{Reads, IsKnown}
use Rattle.nt_outside.specs.Disk.{DiskState}
use Rattle.nt_outside.proofs.Known.{known_once}
use Rattle.nt_turn.specs.Pass.{PassState, Closes}
use Rattle.nt_machine.specs.declared.entry.Entry.{Entry}
use Rattle.nt_machine.specs.Deal.{Uses, IsGrouped, IsDeal}
use Rattle.nt_machine.specs.History.{Settled, Cluster, order_of, publishers_of, ranges_of, clusters_of}
use Rattle.nt_machine.specs.Legal.{IsLegal, spans_of}
use Rattle.nt_machine.specs.Spans.{Span}
use Rattle.nt_machine.specs.Staging.{KeepsStaging}
use Rattle.nt_machine.specs.Untold.{untold}
use Rattle.nt_machine.proofs.Dealing.{deals}
use Rattle.nt_machine.proofs.Grouping.{grouped}
use Rattle.nt_machine.proofs.Publishers.{same_publishers}
use Rattle.nt_machine.proofs.Untelling.{same}
use Rattle.nt_book.specs.declared.meta.ClusterMeta.{ClusterMeta}
use Rattle.nt_book.specs.declared.params.Params.{Params}
use Rattle.nt_book.specs.Books.{BookData, book_ranges, book_clusters}
use Rattle.nt_book.specs.Kept.{IsBookKept}
use Rattle.nt_logged.specs.Logs.{IsLogOf}
use Rattle.nt_logged.specs.Steps.{told_history}
use Rattle.nt_commit.specs.declared.locked.Birth.{Birth}
use Rattle.nt_commit.specs.Locked.{GainsLists, IsInStep, birth_of, context_of, history_of_locked, locked_by}
use Rattle.nt_layout.specs.Headers.{clusters_place}
use Rattle.nt_layout.specs.Arranged.{HasLists, parts_filled}
use Rattle.nt_layout.specs.Laid.{range_of}
use Rattle.nt_finished.specs.Filled.{IsArrangedBook, FillsBook}
use Rattle.nt_dealing.specs.Begun.{IsBornFor}
use Rattle.nt_dealing.specs.Written.{IsChunkBlob, HaveWritten}
use Rattle.nt_dealing.specs.Dealt.{commit_order, FillsWith, IsDealtOut}
use Rattle.nt_dealing.proofs.Written.{each_wrote_all, others_idle, none_failed}
use Rattle.nt_dealing.proofs.Filled.{FrontsStand, front_stays}
use Rattle.nt_dealing.proofs.Filling.{IsRangeBlob, clusters-same, order-same, count-same, all-ranges, blobs, clusters-owned, blobs-told}
use Rattle.nt_dealing.proofs.Filling.{blobs-long, blobs-dealt}
use Rattle.nt_dealing.proofs.Noted.{arranged-of, between-of}
use Rattle.nt_dealing.proofs.Owned.{owned_dealt}

-- a history with bytes has the ranges of the one without, but for the bytes
same_ranges : (begun now : Option Held) (history : List (Entry ClusterMeta))
    → map untold (ranges_of (told_history begun now history)) ≡ map untold (ranges_of history)
same_ranges None now history = refl
same_ranges (Some h) None history = refl
same_ranges (Some h) (Some h') history = same history _

same_publishing : (begun now : Option Held) (history : List (Entry ClusterMeta))
    → publishers_of (told_history begun now history) ≡ publishers_of history
same_publishing None now history = refl
same_publishing (Some h) None history = refl
same_publishing (Some h) (Some h') history = same_publishers history _

-- and they lie in the same places
same_spans : (cs ds : List (Cluster ClusterMeta)) → map untold cs ≡ map untold ds → spans_of cs ≡ spans_of ds
same_spans [] [] is = refl
same_spans [] (d ∷ ds) is = cc
same_spans (c ∷ cs) [] is = cc
same_spans (c ∷ cs) (d ∷ ds) is =
    let one : untold c ≡ untold d = cc in
    let rest : map untold cs ≡ map untold ds = cc in
    ap (λ (e : Cluster ClusterMeta). record { start = e.start; len = e.len } ∷ spans_of cs) one
    ∙ ap (λ (l : List Span). record { start = d.start; len = d.len } ∷ l) (same_spans cs ds rest)

-- a file that a history filled is known: its front, the ranges and the page lists
abbrev pub FilledAreKnown : Type 0
FilledAreKnown = (staged : Bool) (t : Table) (most : ℕ) (book : BookData) (ranges : List (List ℕ)) (log steps : List Step)
    (front : List ℕ) (end : ℕ) (history : List (Entry ClusterMeta)) (lists : List Part) (torn : List ℕ)
    → IsArrangedBook staged t most book ranges → IsKnown log front → length front ≡ clusters_place t → IsLegal (length front) history
    → IsLogOf (length front) end history lists torn steps → FillsBook staged t most book ranges history end lists
    → IsKnown (log ++ steps) (front ++ concat (part_bytes (parts_filled staged t book most ranges)))

module _ {D : Type 0} (state : D → DiskState)
    (told : (d : D) (h : Held) → (state d).held ≡ Some h → ((state d).end ≡ length h.image) × Reads h.log h.image)
    (stand : FrontsStand) (known_all : FilledAreKnown) where
  module _ (birth : Birth D) (disk : D) (book : BookData) (t : Table) (p : Params)
      (step : IsInStep state (locked_by birth disk book)) (kept : IsBookKept book) (born : IsBornFor state birth t p) where
    -- the ranges of the book, and the page lists, none of which failed
    fills-with : (ranges : List (List ℕ)) → map length ranges ≡ map (λ (c : Cluster ClusterMeta). c.len) (book_ranges book)
        → HasLists p.staged t p.group book → (h : Held) → (state birth.begun).held ≡ Some h
        → AllZip (λ (part : List ℕ) (c : Cluster ClusterMeta). c.state ≡ Settled (Some part)) ranges
        (ranges_of (history_of_locked state (locked_by birth disk book)))
        → (h' : Held) × ((state disk).held ≡ Some h') × FillsWith p.staged t p.group book ranges h h'
    fills-with ranges lens arranged h is settled =
        let history : List (Entry ClusterMeta) = history_of_locked state (locked_by birth disk book) in
        let after = step.follows.log h is in
        let gains : GainsLists (state birth.begun).end (state disk).end history step.lists step.torn h after.0 = after.2 in
        let reads = (told disk after.0 after.1).1 in
        let begins : (state birth.begun).end ≡ length h.image = (told birth.begun h is).0 in
        let fills : FillsBook p.staged t p.group book ranges history (state disk).end step.lists = record {
          settled = settled;
          same = same_spans (ranges_of history) (ranges_of book.history)
              (same_ranges (state birth.begun).held (state disk).held book.history);
          noted = between-of t p.group book kept step.lists step.torn step.listed p.staged (step.group ∙ born.group);
          ends = step.end;
        } in
        let of : IsArrangedBook p.staged t p.group book ranges =
        record { kept = kept; lists = arranged; begin = step.begin ∙ born.end; lens = lens } in (
          after.0,
          after.1,
          record {
            fills = record {
              history = history;
              legal = subst (λ (n : ℕ). IsLegal n history) (sym step.begin) step.follows.legal;
              end = (state disk).end;
              lists = step.lists;
              torn = step.torn;
              gains = subst (λ (n : ℕ). GainsLists n (state disk).end history step.lists step.torn h after.0) (sym step.begin) gains;
              front = front_stays state told stand birth h is (state disk).end history step.lists step.torn after.0 gains reads;
            };
            fills_book = fills;
            stand = λ known.
                known_once (h.log ++ gains.steps)
                (h.image ++ concat (part_bytes (parts_filled p.staged t book p.group ranges))) after.0.image
                (known_all p.staged t p.group book ranges h.log gains.steps h.image (state disk).end history step.lists step.torn of known
                (sym begins ∙ born.end) (subst (λ (n : ℕ). IsLegal n history) begins step.follows.legal)
                (subst (λ (n : ℕ). IsLogOf n (state disk).end history step.lists step.torn gains.steps) begins gains.is_log) fills)
                (subst (λ (l : List Step). Reads l after.0.image) gains.log reads);
          },
        )

  pub dealt_out : (birth : Birth D) (disk : D) (book : BookData) (first : PassState (Entry ClusterMeta) (Birth D)) (t : Table) (p : Params)
      (chunks : List (List (List TreesData)))
      → Closes (history_of_locked state) birth_of context_of first (locked_by birth disk book)
      → IsInStep state (locked_by birth disk book) → IsBookKept book → IsBornFor state birth t p
      → HaveWritten (state birth.begun).held t p.page p.staged chunks first.number first.own first.kept
      → IsDealtOut t p chunks book (state birth.begun).held (state disk).held
  dealt_out birth disk book first t p chunks closes step kept born have =
      let begun = (state birth.begun).held in
      let now = (state disk).held in
      let history : List (Entry ClusterMeta) = told_history begun now book.history in
      let flag : book.staged ≡ p.staged = step.staged ∙ born.staged in
      let wrote = each_wrote_all begun t p.page p.staged history chunks first.number first.own first.kept have closes.kept in
      let idle = others_idle begun t p.page p.staged history chunks first.number first.own first.kept have closes.own closes.others in
      let d = deals (IsChunkBlob begun t p.page) p.staged chunks history wrote idle in
      let b = blobs begun t p.page p.staged chunks history wrote idle (state birth.begun).end step.follows.legal in
      let same_all = same_ranges begun now book.history in
      let same : map untold (clusters_of p.staged history) ≡ map untold (book_clusters book) =
      clusters-same p.staged history book.history same_all (same_publishing begun now book.history)
      ∙ ap (λ (s : Bool). map untold (clusters_of s book.history)) (sym flag) in
      let order : order_of (clusters_of p.staged history) ≡ commit_order book =
      order-same (clusters_of p.staged history) (book_clusters book) same in
      let zip = owned_dealt (λ x (c : Cluster ClusterMeta). IsRangeBlob begun t p.page (range_of b.bs c) x c)
      (clusters_of p.staged history) chunks d.dealt d.is_deal
      (clusters-owned begun t p.page p.staged chunks history wrote idle b) in
      let untorn : book.torn ≡ None =
      step.whole (none_failed begun t p.page p.staged history chunks first.number first.own first.kept have closes.kept closes.own
      closes.others) in
      let lens : map length b.bs ≡ map (λ (c : Cluster ClusterMeta). c.len) (book_ranges book) =
      blobs-long begun t p.page b.bs (ranges_of history) (book_ranges book) b.each same_all (λ k less. (kept.ranges k less).len) in
      let arranged = arranged-of t p.group book kept step.lists step.torn step.listed p.staged flag (step.group ∙ born.group) untorn in
      record {
        ranges = b.bs;
        are = record {
          uses = record {
            uses = subst (λ (l : List ℕ). Uses l chunks) order d.uses;
            grouped = λ is.
                let all : book.staged ≡ true = flag ∙ is in
                subst (λ (s : Bool). IsGrouped (order_of (clusters_of s book.history))) (sym all)
                (grouped book.history (subst (λ (s : Bool). KeepsStaging s book.history) all kept.staging));
          };
          dealt = d.dealt;
          is_deal = subst (λ (l : List ℕ). IsDeal chunks l d.dealt) order d.is_deal;
          all = sym (count-same (clusters_of p.staged history) (book_clusters book) same)
              ∙ (all-ranges begun t p.page p.staged chunks history wrote idle
              ∙ count-same (ranges_of history) (book_ranges book) same_all);
          lens = lens;
          blobs_are = blobs-dealt begun t p.page b.bs d.dealt (clusters_of p.staged history) (book_clusters book) zip same;
        };
        lists = arranged;
        stand = λ h is.
            fills-with birth disk book t p step kept born b.bs lens arranged h is
            (blobs-told begun t p.page b.bs (ranges_of history) b.each h is);
      }
