-- What contexts did to the disk, the book and their sources, by what the first pass keeps of them.
use Rattle.std.proofs.Common.{◌≡◌, ◌⊎◌, inl, inr, ℕ, zero, suc, ◌+◌, ◌≤◌, Some, List, [], ◌∷◌, length, take, refl, sym, ap, ◌∙◌, subst}
use Rattle.std.proofs.Common.{append-nil, arith}
use Rattle.std.proofs.Common.{replicate, Bool, true, false, Result, Ok, Err}
use Rattle.std.specs.List.{AllByRecursion}
use Rattle.std.specs.Prelude.{slice_get, slice_index_or}
use Rattle.std.proofs.lemmas.List.{length-map, take_all}
use Rattle.std.proofs.lemmas.Slice.Zip.{AllZip-long}
use Rattle.nt_types.specs.ShapeData.{MemberData}
use Rattle.nt_types.specs.TreeData.{TreesData}
use Rattle.nt_types.specs.Rules.{AreFields}
use Rattle.nt_grammar.specs.Table.{Table}
use Rattle.nt_grammar.specs.Rows.{Rows}
use Rattle.nt_outside.specs.Held.{Held}
use Rattle.nt_outside.specs.Disk.{DiskState}
use Rattle.nt_outside.specs.Faults.{Rose}
use Rattle.nt_outside.specs.Source.{SourceState}
use Rattle.nt_turn.specs.Pass.{TurnState}
use Rattle.nt_machine.specs.History.{Cluster, clusters_of, ranges_of}
use Rattle.nt_logged.proofs.Growing.{log-fresh}
use Rattle.nt_book.specs.declared.meta.ClusterMeta.{ClusterMeta}
use Rattle.nt_book.specs.declared.params.Params.{Params}
use Rattle.nt_book.specs.declared.limits.Limits.{Limits}
use Rattle.nt_book.specs.declared.limits.LimitError.{LimitError}
use Rattle.nt_book.specs.declared.limits.LimitError.TheVariants as limit
use Rattle.nt_book.specs.Books.{BookData, book_clusters, book_end}
use Rattle.nt_commit.specs.declared.locked.Birth.{Birth}
use Rattle.nt_layout.specs.Headers.{clusters_place}
use Rattle.nt_close.specs.Beginning.{new_book}
use Rattle.nt_close.proofs.NewBooks.{new-noted}
use Rattle.nt_dealing.specs.Begun.{IsBornFor}
use Rattle.nt_dealing.specs.Dealt.{FillsBehind}
use Rattle.nt_dealing.specs.Texts.{text_chunks, chunks_of, joined_chunks, all_chunks}
use Rattle.nt_dealing.specs.Limits.{IsOver, IsOverBy}
use Rattle.nt_dealing.specs.Failing.{whole_chunks, chunks_before, CommitsFit, ChunkPasses, ChunkPassesBy}
use Rattle.nt_dealing.proofs.Fitting.{front-fits}
use Rattle.nt_contexts.specs.Seats.{DiskPass}
use Rattle.nt_contexts.specs.declared.error.RunError.{RunError}
use Rattle.nt_contexts.specs.declared.error.RunError.TheVariants.{Outside, Memory, Line, Limit}
use Rattle.nt_contexts.specs.Answers.{limit_told}
use Rattle.nt_contexts.specs.Contexts.{SomeRose, ContextsTold, IsReady, RunsContexts}
use Rattle.nt_contexts.specs.Working.{KeepsFaults, CommittedBefore, WorkTold, HasWorked}
use Rattle.nt_contexts.proofs.Opens.{same-later}
use Rattle.nt_contexts.specs.Ending.{HasEnded}

-- what holds of one pair of numbers holds of the same pair
named : (t : Table) (p : Params) (chunks : List (List TreesData)) (chunk : List TreesData) (one two reached most : ℕ) → one ≡ reached
    → two ≡ most → IsOver t p chunks one two × ChunkPasses t p chunk one two
    → IsOver t p chunks reached most × ChunkPasses t p chunk reached most
named t p chunks chunk one two reached most first second over =
    subst (λ (n : ℕ). IsOver t p chunks n most × ChunkPasses t p chunk n most) first
    (subst (λ (n : ℕ). IsOver t p chunks one n × ChunkPasses t p chunk one n) second over)

-- the limit that an error names is the one that is told
over-told : (t : Table) (p : Params) (chunks : List (List TreesData)) (chunk : List TreesData) (reached most : ℕ) (error : LimitError)
    → Limit reached most ≡ limit_told p.limits.clusters error → IsOverBy t p chunks error × ChunkPassesBy t p chunk error
    → IsOver t p chunks reached most × ChunkPasses t p chunk reached most
over-told t p chunks chunk reached most (limit.RangeTooLarge len range) is over =
    let one : len ≡ reached = cc in
    let two : range ≡ most = cc in
    named t p chunks chunk len range reached most one two over
over-told t p chunks chunk reached most (limit.FileTooLarge end file) is over =
    let one : end ≡ reached = cc in
    let two : file ≡ most = cc in
    named t p chunks chunk end file reached most one two over
over-told t p chunks chunk reached most limit.TooManyClusters is over =
    let one : p.limits.clusters + 1 ≡ reached = cc in
    let two : p.limits.clusters ≡ most = cc in
    named t p chunks chunk (p.limits.clusters + 1) p.limits.clusters reached most one two over

-- the chunks of a text stand at its place
chunks-at : (most place : ℕ) (fields : List MemberData) (texts : List (List ℕ)) (text : List ℕ) → slice_get texts place ≡ Some text
    → slice_index_or (chunks_of most fields texts) place [] ≡ text_chunks most fields text
chunks-at most place fields [] text is = cc
chunks-at most zero fields (x ∷ texts) text is =
    let same : x ≡ text = cc in
    ap (λ (l : List ℕ). text_chunks most fields l) same
chunks-at most (suc place) fields (x ∷ texts) text is = chunks-at most place fields texts text is

-- all chunks are those of all texts
all-before : (css : List (List (List TreesData))) (n : ℕ) → length css ≡ n → chunks_before css n [] ≡ joined_chunks css
all-before css n long =
    append-nil (joined_chunks (take n css)) ∙ ap (λ (l : List (List (List TreesData))). joined_chunks l)
    (take_all n css (omega (arith, long)))

module _ {D : Type 0} (state : D → DiskState) (fields : List MemberData) (t : Table) (p : Params) (committer : TurnState (Birth D)) where
  abbrev pub begun : DiskState
  begun = state committer.birth.begun

  -- all contexts were joined, and the committer ended
  pub runs : (sources sources' : List SourceState) (first : DiskPass D) (answer : Result Unit RunError) (disk : D) (book : BookData)
      → AreFields fields → Rows fields p.plain t → IsBornFor state committer.birth t p
      → committer.birth.firsts ≡ replicate (length t.columns) 0
      → HasWorked state fields t p committer sources sources' first answer → HasEnded state committer.birth first disk book
      → RunsContexts t fields p begun (state disk) (new_book t p) book sources sources' answer
  runs sources sources' first answer disk book rules rows born firsts work ended = record {
    told = λ texts tell. tell-all texts answer (work.told texts tell);
    failed = λ is. blame (work.blamed is);
    undamaged = λ is. let w = work.wrote is in (ended.dealt t p w.0 born w.1).1;
    later = ended.later;
    number = AllZip-long (λ (s s' : SourceState). s.faults ≤ s'.faults) sources sources' work.later;
    sources_later = work.later;
    held = ended.held;
    book_on = record {
      begin = ended.begin ∙ born.end;
      limits = ended.limits ∙ born.limits;
      firsts = ended.firsts ∙ firsts;
      staged = ended.staged ∙ born.staged;
    };
    noted = ended.noted t p born;
    end = ended.end;
    out = ended.out;
    short = subst (λ (l : Limits). AllByRecursion (λ (c : Cluster ClusterMeta). c.len ≤ l.range) (book_clusters book)) born.limits
        ended.short;
  }
    where
      blame : SomeRose sources sources' ⊎ KeepsFaults first → Rose begun.faults (state disk).faults ⊎ SomeRose sources sources'
      blame (inl rose) = inr rose
      blame (inr kept) = inl (ended.blamed kept)

      fit-before : (texts : List (List ℕ)) (place : ℕ) (own : List (List TreesData))
          → CommittedBefore state fields t p committer texts first place own
          → CommitsFit t p (chunks_before (chunks_of p.cluster fields texts) place own)
      fit-before texts place own b =
          front-fits t p (chunks_before (chunks_of p.cluster fields texts) place own) b.others
          (subst (λ (l : List (List TreesData)). CommitsFit t p l) b.are (ended.fit t p (chunks_of p.cluster fields texts) born b.have))

      tell-all : (texts : List (List ℕ)) (r : Result Unit RunError) → WorkTold state fields t p committer texts first r
          → ContextsTold t fields p texts begun (state disk) book r
      tell-all texts (Ok done) w =
          let chunks = chunks_of p.cluster fields texts in (
            w.0,
            (ended.dealt t p chunks born w.1).0,
            subst (λ (l : List (List TreesData)). CommitsFit t p l)
                (all-before chunks (length texts) (length-map texts (text_chunks p.cluster fields)))
                (fit-before texts (length texts) [] w.2),
          )
      tell-all texts (Err (Line input line kind)) w =
          record {
            first = w.bad;
            fit = fit-before texts input (whole_chunks p.cluster (text_chunks p.cluster fields w.bad.text)) w.before;
          }
      tell-all texts (Err (Limit reached most)) w =
          let over = over-told t p (all_chunks p.cluster fields texts) w.passes.chunk reached most w.error w.names
          (ended.over fields t p texts w.place w.own w.seen w.error rules rows born w.before.have w.at w.begins w.passes) in
          record {
            input = w.place;
            text = w.text;
            at = w.text_is;
            lower = w.lower;
            number = length (ranges_of w.own);
            chunk = w.passes.chunk;
            is_next = ap (λ (l : List (List TreesData)). slice_get l (length (ranges_of w.own)))
                (sym (chunks-at p.cluster w.place fields texts w.text w.text_is)) ∙ w.passes.at;
            is_written = w.is_written;
            fit = fit-before texts w.place (take (length (ranges_of w.own)) (text_chunks p.cluster fields w.text)) w.before;
            passes = over.1;
            over = over.0;
          }
      tell-all texts (Err Outside) w = tt
      tell-all texts (Err Memory) w = tt

-- nothing was done, for want of memory
take-whole : (l : List ℕ) → take (length l) l ≡ l
take-whole [] = refl
take-whole (x ∷ l) = ap (λ (r : List ℕ). x ∷ r) (take-whole l)

-- no range was reserved
nothing-fills : (begin : ℕ) (h : Held) → FillsBehind begin h h
nothing-fills begin h =
    record {
      history = [];
      legal = tt;
      end = begin;
      lists = [];
      torn = [];
      gains = record { steps = []; log = sym (append-nil h.log); is_log = log-fresh begin };
      front = λ known. take-whole h.image;
    }

pub runs-nothing : (fields : List MemberData) (t : Table) (p : Params) (disk : DiskState) (book : BookData) (sources : List SourceState)
    (n : ℕ)
    → IsReady fields p t book disk n → RunsContexts t fields p disk disk book book sources sources (Err Memory)
runs-nothing fields t p disk book sources n ready = record {
  told = λ texts tell. tt;
  failed = λ is. cc;
  undamaged = λ is. cc;
  later = omega arith;
  number = refl;
  sources_later = same-later sources;
  held = λ h is. (h, is, nothing-fills disk.end h);
  book_on = record { begin = refl; limits = refl; firsts = refl; staged = refl };
  noted = new-noted t p book ready.book_is;
  end = ready.end ∙ begins;
  out = ready.out;
  short = subst (λ (b : BookData). AllByRecursion (λ (c : Cluster ClusterMeta). c.len ≤ book.limits.range) (book_clusters b)) (sym
      ready.book_is) (none p.staged);
}
  where
    none : (staged : Bool) → AllByRecursion (λ (c : Cluster ClusterMeta). c.len ≤ book.limits.range) (clusters_of staged [])
    none true = tt
    none false = tt

    begins : clusters_place t ≡ book_end book
    begins = subst (λ (b : BookData). clusters_place t ≡ book_end b) (sym ready.book_is) (omega arith)
