-- Which limits the chunks of a history pass.
use Rattle.std.proofs.Common.{◌≡◌, ◌∙◌, ap, sym, refl, subst, inl, inr, ℕ, ◌+◌, ◌-◌, ◌*◌, ◌<◌, ◌≤◌, Bool, true, false, List, [], ◌∷◌}
use Rattle.std.proofs.Common.{◌++◌, length, map, take, drop, Option, Some, append_assoc, sum_by, arith}
use Rattle.std.specs.Prelude.{IsPermutation, slice_get, slice_index_or}
use Rattle.std.proofs.lemmas.List.{length-append, length-drop}
use Rattle.std.proofs.lemmas.List.Sums.{sum_by-cons, sum_by-append}
use Rattle.std.proofs.lemmas.List.Sorted.{IsPermutation-sym, IsPermutation-trans, IsPermutation-middle, IsPermutation-append_right}
use Rattle.std.proofs.lemmas.List.Sorted.{length_permutation}
use Rattle.std.proofs.lemmas.Slice.Zip.{AllZip-long}
use mathlib.Core.List.{IsPrefix}
use Rattle.nt_turn.specs.Pass.{PassState, Closes}
use Rattle.nt_turn.proofs.Prefixes.{prefix_more}
use Rattle.nt_types.specs.ShapeData.{MemberData}
use Rattle.nt_types.specs.TreeData.{TreesData}
use Rattle.nt_grammar.specs.Table.{Table}
use Rattle.nt_grammar.specs.Rows.{Rows}
use Rattle.nt_container.specs.Lengths.{anchor_part_len, key_list_part_len, free_list_part_len}
use Rattle.nt_outside.specs.Disk.{DiskState}
use Rattle.nt_machine.specs.declared.entry.Entry.{Entry}
use Rattle.nt_machine.specs.History.{Cluster, mine_of, own_of, ranges_of}
use Rattle.nt_machine.specs.Legal.{end_after}
use Rattle.nt_book.specs.declared.meta.ClusterMeta.{ClusterMeta}
use Rattle.nt_book.specs.declared.params.Params.{Params}
use Rattle.nt_book.specs.declared.limits.Limits.{Limits}
use Rattle.nt_book.specs.declared.limits.LimitError.{LimitError}
use Rattle.nt_book.specs.Books.{BookData}
use Rattle.nt_commit.specs.declared.locked.Birth.{Birth}
use Rattle.nt_commit.specs.Lists.{full_lists_len, listed_end, IsDueLen, IsLastList}
use Rattle.nt_commit.specs.Locked.{book_of_birth, birth_of, context_of, history_of_locked, locked_by}
use Rattle.nt_pages.specs.Image.{image}
use Rattle.nt_pages.specs.Metas.{cluster_meta}
use Rattle.nt_layout.specs.Headers.{header_sum, clusters_place}
use Rattle.nt_layout.specs.Arranged.{group_for}
use Rattle.nt_dealing.specs.Begun.{IsBornFor}
use Rattle.nt_dealing.specs.Lengths.{page_list_len, page_lists_len, footer_len, group_count, whole_len}
use Rattle.nt_dealing.specs.Texts.{joined_chunks}
use Rattle.nt_dealing.specs.Written.{HaveCommitted}
use Rattle.nt_dealing.specs.Limits.{IsKeptOf, AreKeptOf, of_chunk, of_page_list, IsOver, range_passed, file_passed, too_many, IsOverBy}
use Rattle.nt_dealing.specs.Limits.{NextPasses}
use Rattle.nt_dealing.specs.Failing.{chunk_too_long, list_too_long, chunk_too_far, chunk_too_many, ChunkPasses, ChunkPassesBy}
use Rattle.nt_dealing.proofs.Takings.{Place, place_of_all, contained, get-drop}
use Rattle.nt_dealing.proofs.Grouped.{last-first, last-long, listed-within, zip-drop}
use Rattle.nt_dealing.proofs.Longest.{lists-grow, longest}
use Rattle.nt_dealing.proofs.Fronts.{Taken, taken, fronts_before, fewer_before}
use Rattle.nt_dealing.proofs.Committed.{IsRangeOf, kept_are, lens_are, kept_more, by_limit, own_kept, IsFront, each_front}

begins_whole : (reached end len a b old c d e : ℕ) → reached ≤ end + old + len → end + len ≡ a + b → old ≤ c → reached ≤ a + b + c + d + e
begins_whole reached end len a b old c d e le is grows = omega (arith, le, is, grows)

module _ (fields : List MemberData) (t : Table) (p : Params) (rows : Rows fields p.plain t) (chunks : List (List (List TreesData)))
    (history : List (Entry ClusterMeta)) (begun : BookData) (grouped : begun.group ≡ group_for begun.staged p.group (header_sum t))
    (same : begun.limits ≡ p.limits) (begins : begun.begin ≡ clusters_place t)
    (each : (i : ℕ) → IsFront t p.page history chunks i) where
  abbrev limits : Limits
  limits = begun.limits

  abbrev begin : ℕ
  begin = begun.begin

  passes_all : (i : ℕ) (seen : List (Entry ClusterMeta)) (error : LimitError) → IsPrefix seen history
      → (next : NextPasses begun t p.page (slice_index_or chunks i []) (mine_of history i) seen error)
      → IsOverBy t p (joined_chunks chunks) error × ChunkPassesBy t p next.chunk error
  passes_all i seen error first n =
      by_limit (λ e. IsOverBy t p (joined_chunks chunks) e × ChunkPassesBy t p n.chunk e) limits n.place.before (length cs) len
      n.place.due error n.passed (λ less. (range less, chunk_too_long meta kept refl range_is)) lists
      (λ less. (file less, chunk_too_far meta kept (omega (arith, begins, n.place.is.least)) file_is))
      (λ full. (clusters full, chunk_too_many refl refl))
    where
      now : Bool → BookData
      now staged = record begun { history = n.history; staged = staged }

      cs : List (Cluster ClusterMeta)
      cs = ranges_of n.history

      len : ℕ
      len = length (image p.page n.columns)

      reached : ℕ
      reached = n.place.before + n.place.due + len

      range_is : limits.range ≡ p.limits.range
      range_is = ap (λ (l : Limits). l.range) same

      file_is : limits.file ≡ p.limits.file
      file_is = ap (λ (l : Limits). l.file) same

      some_group : 0 < p.group
      some_group = let count = p.group_range.0 in omega (arith, count)

      before : IsPrefix n.history history
      before = subst (λ (l : List (Entry ClusterMeta)). IsPrefix n.history l) first.1 (prefix_more n.history seen first.0 n.before)

      meta : ClusterMeta
      meta = cluster_meta p.page 0 (length n.chunk) n.columns

      taken_all : Taken (IsRangeOf t p.page) chunks cs
      taken_all =
          taken (IsRangeOf t p.page) cs chunks
          (fronts_before (IsRangeOf t p.page) (λ x state c h. record { kept = h.kept; len = h.len }) chunks history n.history before each)

      kept : IsKeptOf t p.page n.chunk meta
      kept = record { columns = n.columns; gives = n.gives; meta_is = refl }

      place : Place (joined_chunks taken_all.left) n.chunk
      place =
          let k = length (own_of cs i) in
          let all = length (ranges_of (mine_of history i)) in
          let mine : List (List TreesData) = slice_index_or chunks i [] in
          let fewer = fewer_before history n.history i before in
          let up : k + (all - k) ≡ all = omega (arith, fewer) in
          place_of_all i (all - k) taken_all.left n.chunk
          (ap (λ (l : List (List TreesData)). slice_get l (all - k)) (taken_all.rest i)
          ∙ (get-drop k (all - k) mine ∙ (ap (λ (m : ℕ). slice_get mine m) up ∙ n.at)))

      some : List (List TreesData)
      some = taken_all.some ++ n.chunk ∷ []

      others : List (List TreesData)
      others = place.front ++ place.back

      permuted : IsPermutation (some ++ others) (joined_chunks chunks)
      permuted =
          subst (λ (l : List (List TreesData)). IsPermutation l (joined_chunks chunks))
          (sym (append_assoc taken_all.some (n.chunk ∷ []) others))
          (IsPermutation-trans (taken_all.some ++ n.chunk ∷ others) (taken_all.some ++ (place.front ++ n.chunk ∷ place.back))
          (joined_chunks chunks)
          (IsPermutation-append_right taken_all.some (n.chunk ∷ others) (place.front ++ n.chunk ∷ place.back)
          (IsPermutation-sym (place.front ++ n.chunk ∷ place.back) (n.chunk ∷ others)
          (IsPermutation-middle place.front n.chunk place.back)))
          (subst (λ (l : List (List TreesData)). IsPermutation (taken_all.some ++ l) (joined_chunks chunks)) place.whole
          taken_all.permuted))

      metas : List ClusterMeta
      metas = map (λ (c : Cluster ClusterMeta). c.meta) cs

      range : limits.range < len → IsOver t p (joined_chunks chunks) len limits.range
      range less =
          let at = place_of_all i (length (ranges_of (mine_of history i))) chunks n.chunk n.at in
          range_passed (of_chunk n.chunk meta (contained (joined_chunks chunks) n.chunk at) kept refl) range_is less

      -- the page list of the last group, which is full
      last_list : limits.range < n.place.due → IsLastList (header_sum t) p.group (now false) n.place.due
          → IsOver t p (joined_chunks chunks) n.place.due limits.range × ChunkPasses t p n.chunk n.place.due limits.range
      last_list less last =
          let k = last.groups * p.group in
          let xs = taken_all.some in
          let long : length xs ≡ length cs = sym (AllZip-long (IsRangeOf t p.page) xs cs taken_all.pairs) in
          let count : length (drop k xs) ≡ p.group = omega (arith, length-drop k xs, long, last.full) in
          let are : AreKeptOf t p.page (drop k xs) (drop k metas) =
          zip-drop (IsKeptOf t p.page) k xs metas (kept_are t p.page xs cs taken_all.pairs) in
          let is : n.place.due ≡ page_list_len (drop k metas) = last-long (header_sum t) p.group (now false) n.place.due last in
          let all = last-first k xs (joined_chunks taken_all.left) (joined_chunks chunks) taken_all.permuted in (
            range_passed (of_page_list (drop k xs) (take k xs ++ joined_chunks taken_all.left) (drop k metas) all (omega (arith, count)) are
                is) range_is less,
            list_too_long (drop k xs) (drop k metas) count are is range_is,
          )

      -- none is due where clusters are staged
      due_list : (b : Bool) → begun.staged ≡ b → IsDueLen (group_for b p.group (header_sum t)) (now begun.staged) n.place.due
          → limits.range < n.place.due
          → IsOver t p (joined_chunks chunks) n.place.due limits.range × ChunkPasses t p n.chunk n.place.due limits.range
      due_list true flag due less = absurd (omega (arith, less, due))
      due_list false flag due less =
          elim due [
            | inl none ↦ absurd (omega (arith, less, none))
            | inr last ↦ last_list less (subst (λ (s : Bool). IsLastList (header_sum t) p.group (now s) n.place.due) flag last)
          ]

      lists : limits.range < n.place.due
          → IsOver t p (joined_chunks chunks) n.place.due limits.range × ChunkPasses t p n.chunk n.place.due limits.range
      lists less =
          due_list begun.staged refl
          (subst (λ (g : Option (ℕ × ℕ)). IsDueLen g (now begun.staged) n.place.due) grouped n.place.is.due_is) less

      -- the file ends no farther than with all page lists
      end_most : (b : Bool) → begun.staged ≡ b → begun.group ≡ group_for b p.group (header_sum t)
          → listed_end (now begun.staged) ≤ end_after begin cs + page_lists_len p.group metas
      end_most true flag none =
          let no_lists : full_lists_len begun.group (now begun.staged) ≡ 0 =
          ap (λ (g : Option (ℕ × ℕ)). full_lists_len g (now begun.staged)) none in
          omega (arith, no_lists)
      end_most false flag some_lists =
          subst (λ (s : Bool). listed_end (now s) ≤ end_after begin cs + page_lists_len p.group metas) (sym flag)
          (listed-within (header_sum t) p.group (now false) some_group some_lists)

      within : reached ≤ whole_len t p.group (metas ++ meta ∷ [])
      within =
          let ms : List ClusterMeta = metas ++ meta ∷ [] in
          let lens : ClusterMeta → ℕ = λ (m : ClusterMeta). m.len in
          let sums : end_after begin cs + len ≡ clusters_place t + sum_by lens ms =
          omega (
            arith,
            begins,
            sum_by-append lens metas (meta ∷ []),
            sum_by-cons lens meta [],
            lens_are t p.page taken_all.some cs taken_all.pairs,
          ) in
          begins_whole reached (end_after begin cs) len (clusters_place t) (sum_by lens ms) (page_lists_len p.group metas)
          (page_lists_len p.group ms) (footer_len t (group_count p.group (length ms)))
          (anchor_part_len + key_list_part_len + free_list_part_len)
          (omega (arith, n.place.is.most, end_most begun.staged refl grouped)) sums
          (lists-grow p.group metas (meta ∷ []) some_group)

      file : limits.file < reached → IsOver t p (joined_chunks chunks) reached limits.file
      file less =
          let all = longest fields p.plain t rows p.page p.group some others (metas ++ meta ∷ []) some_group
          (kept_more t p.page taken_all.some metas n.chunk meta (kept_are t p.page taken_all.some cs taken_all.pairs) kept) in
          file_passed all.0 (record { order = some ++ others; permuted = permuted; counted = all.1 }) (omega (arith, within, all.2))
          file_is less

      clusters : length cs ≡ limits.clusters → IsOver t p (joined_chunks chunks) (p.limits.clusters + 1) p.limits.clusters
      clusters full =
          let count : limits.clusters ≡ p.limits.clusters = ap (λ (l : Limits). l.clusters) same in
          too_many refl refl
          (omega (
            arith,
            count,
            full,
            length_permutation (some ++ others) (joined_chunks chunks) permuted,
            length-append some others,
            length-append taken_all.some (n.chunk ∷ []),
            AllZip-long (IsRangeOf t p.page) taken_all.some cs taken_all.pairs,
          ))

module _ {D : Type 0} (state : D → DiskState) where
  pub next_passes_all : (birth : Birth D) (disk : D) (book : BookData) (first : PassState (Entry ClusterMeta) (Birth D))
      (fields : List MemberData) (t : Table) (p : Params) (rows : Rows fields p.plain t) (chunks : List (List (List TreesData))) (i : ℕ)
      (own seen : List (Entry ClusterMeta)) (error : LimitError)
      → Closes (history_of_locked state) birth_of context_of first (locked_by birth disk book) → IsBornFor state birth t p
      → HaveCommitted t p.page chunks first.number first.own first.kept
      → slice_get first.kept i ≡ Some (i, own) → IsPrefix seen first.seen
      → (next : NextPasses (book_of_birth state birth []) t p.page (slice_index_or chunks i []) own seen error)
      → IsOverBy t p (joined_chunks chunks) error × ChunkPassesBy t p next.chunk error
  next_passes_all birth disk book first fields t p rows chunks i own seen error closes born have at before next =
      let history : List (Entry ClusterMeta) = history_of_locked state (locked_by birth disk book) in
      let mine : own ≡ mine_of history i = own_kept t p.page history first.kept i i own closes.kept at in
      let begun : IsPrefix seen history =
      subst (λ (l : List (Entry ClusterMeta)). IsPrefix seen l) closes.seen.1 (prefix_more seen first.seen closes.seen.0 before) in
      let begins = book_of_birth state birth [] in
      let group : birth.group ≡ group_for birth.staged p.group (header_sum t) =
      born.group ∙ ap (λ (s : Bool). group_for s p.group (header_sum t)) (sym born.staged) in
      subst
      (λ (l : List (Entry ClusterMeta)). (x : NextPasses begins t p.page (slice_index_or chunks i []) l seen error)
      → IsOverBy t p (joined_chunks chunks) error × ChunkPassesBy t p x.chunk error)
      (sym mine)
      (passes_all fields t p rows chunks history begins group born.limits born.end
      (each_front t p.page history chunks first.number first.own first.kept have closes.kept closes.own closes.others)
      i seen error begun)
      next
