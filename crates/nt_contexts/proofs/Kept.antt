-- The entries that contexts leave, in their order, and what these tell of their texts.
use Rattle.std.proofs.Common.{◌≡◌, ◌⊎◌, ℕ, zero, suc, ◌+◌, ◌<◌, List, [], ◌∷◌, ◌++◌, length, take, append_assoc}
use Rattle.std.proofs.Common.{Some, None}
use Rattle.std.proofs.Common.{sym, ap, ◌∙◌, subst, arith}
use Rattle.std.specs.Prelude.{slice_get, slice_index_or}
use mathlib.Core.List.{IsPrefix}
use Rattle.nt_types.specs.ShapeData.{MemberData}
use Rattle.nt_types.specs.TreeData.{TreesData}
use Rattle.nt_grammar.specs.Table.{Table}
use Rattle.nt_outside.specs.Disk.{DiskState}
use Rattle.nt_turn.specs.History.{HasNone}
use Rattle.nt_turn.specs.Pass.{TurnState}
use Rattle.nt_machine.specs.declared.entry.Entry.{Entry}
use Rattle.nt_machine.specs.History.{ranges_of}
use Rattle.nt_book.specs.declared.limits.LimitError.{LimitError}
use Rattle.nt_book.specs.declared.meta.ClusterMeta.{ClusterMeta}
use Rattle.nt_book.specs.declared.params.Params.{Params}
use Rattle.nt_commit.specs.declared.locked.Birth.{Birth}
use Rattle.nt_commit.specs.Locked.{book_of_birth}
use Rattle.nt_event.specs.declared.fault.TextKind.{TextKind}
use Rattle.nt_dealing.specs.Texts.{events_of, text_chunks, chunks_of, joined_chunks, IsFirstBad}
use Rattle.nt_dealing.specs.Failing.{whole_chunks, chunks_before, committed_chunks}
use Rattle.nt_dealing.specs.Limits.{NextPasses}
use Rattle.nt_contexts.specs.Filling.{HaveFaults}
use Rattle.nt_contexts.specs.declared.error.RunError.TheVariants.{Limit}
use Rattle.nt_contexts.specs.Answers.{limit_told}

abbrev pub Kept : Type 0
Kept = List (ℕ × List (Entry ClusterMeta))

-- kept lists whose numbers go on from this one
abbrev pub AreNumbered : ℕ → Kept → Type 0
AreNumbered i [] = Unit {0}
AreNumbered i (k ∷ kept) = (k.0 ≡ i) × AreNumbered (i + 1) kept

-- so each of these numbers was joined
pub numbered-joined : (i : ℕ) (kept : Kept) (j : ℕ) → AreNumbered i kept → j < length kept → HasNone kept (i + j) → ⊥
numbered-joined i [] j are less none = omega arith
numbered-joined i (k ∷ kept) zero are less none = none.0 (omega (arith, are.0))
numbered-joined i (k ∷ kept) (suc j) are less none =
    let next : i + suc j ≡ i + 1 + j = omega arith in
    numbered-joined (i + 1) kept j are.1 (omega arith) (subst (λ (n : ℕ). HasNone kept n) next none.1)

-- faults stand among the entries of one of these
pub record SomeFaulty (kept : Kept) : Type 0 where
  pub place : ℕ
  pub k : ℕ × List (Entry ClusterMeta)
  pub at : slice_get kept place ≡ Some k
  pub faults : HaveFaults k.1

-- all chunks of contexts before a place were committed, and then these, whatever others were
pub record Before (chunks : List (List (List TreesData))) (kept : Kept) (place : ℕ) (own : List (List TreesData)) : Type 0 where
  pub others : List (List TreesData)
  pub are : committed_chunks chunks kept ≡ chunks_before chunks place own ++ others

-- one context more committed all its chunks
pub before-more : (cs : List (List TreesData)) (css : List (List (List TreesData))) (k : ℕ × List (Entry ClusterMeta)) (kept : Kept)
    (place : ℕ)
    (own : List (List TreesData)) → take (length (ranges_of k.1)) cs ≡ cs → Before css kept place own
    → Before (cs ∷ css) (k ∷ kept) (suc place) own
before-more cs css k kept place own all b =
    let lower = joined_chunks (take place css) in
    record {
      others = b.others;
      are = (λ i. all i ++ b.are i)
          ∙ (sym (append_assoc cs (lower ++ own) b.others)
          ∙ ap (λ (l : List (List TreesData)). l ++ b.others) (sym (append_assoc cs lower own)));
    }

-- the first bad line of texts whose numbers go on from this one, and what was committed before it
pub record BadFrom (fields : List MemberData) (p : Params) (i : ℕ) (texts : List (List ℕ)) (kept : Kept) (input line : ℕ) (kind : TextKind)
    : Type 0 where
  pub place : ℕ
  pub number : input ≡ i + place
  pub bad : IsFirstBad fields texts place line kind
  pub before : Before (chunks_of p.cluster fields texts) kept place (whole_chunks p.cluster (text_chunks p.cluster fields bad.text))

-- the next chunk of one of these contexts passes a limit, behind what was seen
pub record PassesFrom {D : Type 0} (state : D → DiskState) (fields : List MemberData) (t : Table) (p : Params) (committer : TurnState
    (Birth D)) (i clusters : ℕ) (texts : List (List ℕ)) (seen : List (Entry ClusterMeta)) (kept : Kept) (reached most : ℕ) : Type 0 where
  pub error : LimitError
  pub names : Limit reached most ≡ limit_told clusters error
  pub place : ℕ
  pub text : List ℕ
  pub text_is : slice_get texts place ≡ Some text
  pub lower : (j : ℕ) (other : List ℕ) → j < place → slice_get texts j ≡ Some other → (events_of fields other).bad ≡ None
  pub own : List (Entry ClusterMeta)
  pub mine : List (Entry ClusterMeta)
  pub at : slice_get kept place ≡ Some (i + place, own)
  pub begins : IsPrefix mine seen
  pub passes : NextPasses (book_of_birth state committer.birth []) t p.page (slice_index_or (chunks_of p.cluster fields
      texts) place []) own mine error
  pub is_written : (length passes.chunk ≡ p.cluster) ⊎ ((events_of fields text).bad ≡ None)
  pub before : Before (chunks_of p.cluster fields texts) kept place (take (length (ranges_of own)) (text_chunks p.cluster fields text))

-- no text before this place has a bad line, and the first has none
pub lower-more : (fields : List MemberData) (place : ℕ) (text : List ℕ) (texts : List (List ℕ)) → (events_of fields text).bad ≡ None
    → ((j : ℕ) (other : List ℕ) → j < place → slice_get texts j ≡ Some other → (events_of fields other).bad ≡ None)
    → (j : ℕ) (other : List ℕ) → j < suc place → slice_get (text ∷ texts) j ≡ Some other → (events_of fields other).bad ≡ None
lower-more fields place text texts sound lower zero other less at =
    let same : text ≡ other = cc in
    subst (λ (l : List ℕ). (events_of fields l).bad ≡ None) same sound
lower-more fields place text texts sound lower (suc j) other less at = lower j other (omega (arith, less)) at
