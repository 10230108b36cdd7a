-- The columns of a cluster are read as what stands there.
use Rattle.std.proofs.Common.{◌≡◌, ℕ, zero, suc, ◌+◌, ◌^◌, ◌<◌, true, List, [], ◌∷◌, ◌++◌, length, drop, refl, sym, subst, arith}
use Rattle.std.specs.Prelude.{slice_index_or}
use Rattle.std.proofs.lemmas.List.{length-append}
use Rattle.nt_num.specs.Place.{At}
use Rattle.nt_format.specs.Reading.{IsBytes}
use Rattle.nt_format.specs.Relations.{Agrees, Stands}
use Rattle.nt_format.proofs.Relations.{bind, in_words}
use Rattle.nt_pagelists.specs.declared.column.KnownColumn.{KnownColumn}
use Rattle.nt_pagelists.specs.declared.cluster.ClusterSummary.{ClusterSummary}
use Rattle.nt_pagelists.specs.declared.cluster.ColumnList.{ColumnList}
use Rattle.nt_pagelists.specs.declared.cluster.ClusterList.{ClusterList}
use Rattle.nt_pagelists.specs.Columns.{unknown_column, is_sound_column, judged_unlisted}
use Rattle.nt_pagelists.specs.Pages.{column_lists_on}
use Rattle.nt_payloads.specs.Framed.{Series, no_item, and_item}
use Rattle.nt_payloads.specs.ListTexts.{index_word, ColumnText}
use Rattle.nt_payloads.specs.Conditions.{IsSoundIn}
use Rattle.nt_payloads.proofs.Texts.{seq}
use Rattle.nt_payloads.proofs.Loops.{Behind, loop_end, loop_more, series_parts, series_none}
use Rattle.nt_payloads.proofs.Columns.{ColumnIs, column, judging}

-- the column with this id has what it must have
pub record IsFit (k : ClusterSummary) (columns : List KnownColumn) (elements : List ℕ) (id : ℕ) (l : ColumnList) : Type 0 where
  pub sound : IsSoundIn k (slice_index_or columns id unknown_column) (slice_index_or elements id 0) l
  pub stored : (slice_index_or columns id unknown_column).is_open ≡ true → index_word l.offset < 2 ^ 63

-- so have those from this id on
abbrev pub AreFit : ClusterSummary → List KnownColumn → List ℕ → ℕ → List ColumnList → Type 0
AreFit k columns elements id [] = Unit {0}
AreFit k columns elements id (l ∷ ls) = IsFit k columns elements id l × AreFit k columns elements (suc id) ls

-- columns from this id on stand here, and are so
abbrev pub ColumnsAre : ClusterSummary → List KnownColumn → List ℕ → ℕ → ℕ → List ℕ → List ColumnList → Type 0
ColumnsAre k columns elements id place text ls = Series ColumnText place text ls × AreFit k columns elements id ls

one_more : (lists : List ColumnList) (l : ColumnList) → length (lists ++ l ∷ []) ≡ suc (length lists)
one_more lists l = omega (arith, length-append lists (l ∷ []))

pub columns_are : (k : ClusterSummary) (columns : List KnownColumn) (elements : List ℕ) (n : ℕ) (lists : List ColumnList) (here : At)
    → IsBytes here.left
    → Agrees (column_lists_on k columns elements n lists here)
    (Stands (Behind n lists (ColumnsAre k columns elements (length lists)) here.place) here)
columns_are k columns elements zero lists here bytes = loop_end lists bytes (no_item, tt) (λ text s. series_none here.place text s.0)
columns_are k columns elements (suc n) lists here bytes =
    loop_more
    {Item = ColumnIs k (slice_index_or columns (length lists) unknown_column) (slice_index_or elements (length lists) 0)}
    {Others = λ l. ColumnsAre k columns elements (length (lists ++ l ∷ []))}
    {Such = ColumnsAre k columns elements (length lists)}
    n lists
    (λ first others l ls f o. (
      and_item f.is o.0,
      (record { sound = f.sound; stored = f.stored }, subst (λ (id : ℕ). AreFit k columns elements id ls) (one_more lists l) o.1),
    ))
    (λ text l ls s.
    let p = series_parts here.place text l ls s.0 in
    record {
      first = p.first;
      others = p.others;
      parts = p.parts;
      is_first = record { is = p.is_first; sound = s.1.0.sound; stored = s.1.0.stored };
      are_others = (p.are_others, subst (λ (id : ℕ). AreFit k columns elements id ls) (sym (one_more lists l)) s.1.1);
    })
    (seq _ bytes (column k (length lists) (slice_index_or columns (length lists) unknown_column)
    (slice_index_or elements (length lists) 0) here bytes) λ l m fm.
    columns_are k columns elements n (lists ++ l ∷ []) m fm)

-- columns that are sound without a page
abbrev pub AreUnlisted : ClusterSummary → List KnownColumn → Type 0
AreUnlisted k [] = Unit {0}
AreUnlisted k (c ∷ cs) = (is_sound_column k c 0 [] 0 ≡ true) × AreUnlisted k cs

pub unlisted : (k : ClusterSummary) (frame id : ℕ) (cs : List KnownColumn) → Agrees (judged_unlisted k frame id cs) (λ u. AreUnlisted k cs)
unlisted k frame id [] = record { reads = λ u h. refl; finds = λ u h. tt }
unlisted k frame id (c ∷ cs) = in_words
    (λ u w. (w.first, w.second))
    (λ u h. record { middle = tt; first = h.0; second = h.1 })
    (bind _ (judging k id c 0 frame [] 0) λ u s. unlisted k frame (id + 1) cs)

-- each column has what it must have in a cluster
pub record HasFit (k : ClusterSummary) (columns : List KnownColumn) (elements : List ℕ) (c : ClusterList) : Type 0 where
  pub listed : AreFit k columns elements 0 c.columns
  pub unlisted : AreUnlisted k (drop (length c.columns) columns)
