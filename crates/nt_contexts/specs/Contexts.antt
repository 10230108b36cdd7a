-- What the contexts of a writer leave, which run beside each other: one for each source.
use Rattle.std.specs.Prelude.{⊤, ◌≡◌, ◌⊎◌, ℕ, ◌≤◌, List, [], ◌∷◌, map, length, Some, Result, Ok, Err}
use Rattle.std.specs.List.{AllZip, AllByRecursion}
use Rattle.nt_types.specs.ShapeData.{MemberData}
use Rattle.nt_grammar.specs.Table.{Table}
use Rattle.nt_grammar.specs.Rows.{Rows}
use Rattle.nt_types.specs.Rules.{AreFields}
use Rattle.nt_outside.specs.Faults.{Rose}
use Rattle.nt_outside.specs.Source.{SourceState}
use Rattle.nt_outside.specs.Held.{BecomesSome}
use Rattle.nt_outside.specs.Disk.{DiskState}
use Rattle.nt_machine.specs.History.{Cluster}
use Rattle.nt_book.specs.declared.meta.ClusterMeta.{ClusterMeta}
use Rattle.nt_book.specs.declared.params.Params.{Params}
use Rattle.nt_book.specs.Books.{BookData, book_clusters, book_end}
use Rattle.nt_layout.specs.Headers.{clusters_place}
use Rattle.nt_close.specs.Beginning.{new_book}
use Rattle.nt_close.specs.Damage.{IsUndamaged}
use Rattle.nt_close.specs.Filled.{AreListsNoted}
use Rattle.nt_dealing.specs.Dealt.{IsDealtOut, FillsBehind}
use Rattle.nt_dealing.specs.Texts.{AreSound, chunks_of, all_chunks}
use Rattle.nt_dealing.specs.Failing.{CommitsFit, FailsByLine, FailsByChunk}
use Rattle.nt_contexts.specs.declared.error.RunError.{RunError}
use Rattle.nt_contexts.specs.declared.error.RunError.TheVariants.{Outside, Memory, Line, Limit}

-- the sources tell these texts
abbrev pub TellTexts : List SourceState → List (List ℕ) → Type 0
TellTexts sources texts = map (λ (s : SourceState). s.left) sources ≡ map (λ (text : List ℕ). Some text) texts

-- the file of these fields is begun, and no cluster is written
pub record IsReady (fields : List MemberData) (p : Params) (t : Table) (book : BookData) (disk : DiskState) (sources : ℕ) : Type 0 where
  pub rules : AreFields fields
  pub rows : Rows fields p.plain t
  pub book_is : book ≡ new_book t p
  pub end : disk.end ≡ clusters_place t
  pub out : disk.out ≡ []
  pub some : 1 ≤ sources
  pub few : sources ≤ 64

-- the ranges of a book begin where they did, with the same limits and columns, and are staged where they were
pub record IsBookOn (old new : BookData) : Type 0 where
  pub begin : new.begin ≡ old.begin
  pub limits : new.limits ≡ old.limits
  pub firsts : new.firsts ≡ old.firsts
  pub staged : new.staged ≡ old.staged

-- the count of one of these sources rose
abbrev pub SomeRose : List SourceState → List SourceState → Type 0
SomeRose [] [] = ⊥
SomeRose [] (s ∷ sources) = ⊥
SomeRose (s ∷ sources) [] = ⊥
SomeRose (s ∷ sources) (s' ∷ sources') = Rose s.faults s'.faults ⊎ SomeRose sources sources'

-- no count of these sources fell
abbrev pub AreLater : List SourceState → List SourceState → Type 0
AreLater sources sources' = AllZip (λ (s s' : SourceState). s.faults ≤ s'.faults) sources sources'

-- what is known of the texts, and of the ranges of the book, by the answer
abbrev pub ContextsTold : Table → List MemberData → Params → List (List ℕ) → DiskState → DiskState → BookData → Result Unit RunError
    → Type 0
ContextsTold t fields p texts disk disk' book' (Ok done) =
    AreSound fields texts × IsDealtOut t p (chunks_of p.cluster fields texts) book' disk.held disk'.held
    × CommitsFit t p (all_chunks p.cluster fields texts)
ContextsTold t fields p texts disk disk' book' (Err (Line input line kind)) = FailsByLine t fields p texts input line kind
ContextsTold t fields p texts disk disk' book' (Err (Limit reached limit)) = FailsByChunk t fields p texts reached limit
ContextsTold t fields p texts disk disk' book' (Err Outside) = ⊤
ContextsTold t fields p texts disk disk' book' (Err Memory) = ⊤

-- each context read its source and wrote its chunks, or the first of them that did not says why
pub record RunsContexts (t : Table) (fields : List MemberData) (p : Params) (disk disk' : DiskState) (book book' : BookData) (sources
    sources' : List SourceState) (result : Result Unit RunError) : Type 0 where
  pub told : (texts : List (List ℕ)) → TellTexts sources texts → ContextsTold t fields p texts disk disk' book' result
  -- the outside is blamed only where it failed
  pub failed : result ≡ Err Outside → Rose disk.faults disk'.faults ⊎ SomeRose sources sources'
  pub undamaged : result ≡ Ok tt → IsUndamaged book'
  pub later : disk.faults ≤ disk'.faults
  pub number : length sources' ≡ length sources
  -- the sources come back in their order, and no count fell
  pub sources_later : AreLater sources sources'
  -- the disk tells the steps of a history of ranges, with page lists between them, behind what it held
  pub held : BecomesSome disk.held disk'.held (FillsBehind disk.end)
  pub book_on : IsBookOn book book'
  -- each page list is noted as that of its group
  pub noted : AreListsNoted t p book'
  pub end : disk'.end ≡ book_end book'
  pub out : disk'.out ≡ []
  -- no cluster is longer than a range may get
  pub short : AllByRecursion (λ (c : Cluster ClusterMeta). c.len ≤ book.limits.range) (book_clusters book')
