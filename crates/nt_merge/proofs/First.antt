-- What is refused first, one cluster after the other.
use Rattle.std.proofs.Common.{◌≡◌, ◌∙◌, ap, ℕ, List, [], ◌∷◌, ◌++◌, Option, Some, None, Result, Ok, Err}
use Rattle.std.specs.Prelude.{option_map}
use Rattle.std.specs.Option.{option_or}
use Rattle.nt_num.specs.declared.fault.ReadError.{ReadError}
use Rattle.nt_types.specs.TreeData.{TreesData}
use Rattle.nt_grammar.specs.Table.{Table}
use Rattle.nt_book.specs.declared.limits.LimitError.{LimitError}
use Rattle.nt_book.specs.declared.meta.ClusterMeta.{ClusterMeta}
use Rattle.nt_book.specs.declared.params.Params.{Params}
use Rattle.nt_close.specs.Passing.{passed_by_begin}
use Rattle.nt_merge.specs.declared.error.MergeError.{MergeError}
use Rattle.nt_merge.specs.declared.error.MergeError.TheVariants.{Defect}
use Rattle.nt_merge.specs.Fronts.{passed_by_copy, passed_by_end}
use Rattle.nt_merge.specs.Merging.{Numbered, reading_of, copied_meta, error_of_limit, fault_or, refused_behind, first_refusal}

module _ (t : Table) (p : Params) (ns : List Numbered) where
  -- a header that passes a limit
  pub header-first : (passed : LimitError) → passed_by_begin p.limits t ≡ Some passed
      → first_refusal t p ns ≡ Some (error_of_limit passed)
  header-first passed is =
      ap (λ (o : Option LimitError). option_or (option_map error_of_limit o) (refused_behind t p [] ns)) is

  -- none before the first cluster
  pub header-fits : passed_by_begin p.limits t ≡ None → first_refusal t p ns ≡ refused_behind t p [] ns
  header-fits is = ap (λ (o : Option LimitError). option_or (option_map error_of_limit o) (refused_behind t p [] ns)) is

  -- behind all clusters
  pub end-fits : (metas : List ClusterMeta) → ns ≡ [] → passed_by_end t p metas ≡ None → refused_behind t p metas ns ≡ None
  end-fits metas none is =
      ap (λ (l : List Numbered). refused_behind t p metas l) none ∙ ap (λ (o : Option LimitError). option_map error_of_limit o) is

  pub end-first : (metas : List ClusterMeta) (passed : LimitError) → ns ≡ [] → passed_by_end t p metas ≡ Some passed
      → refused_behind t p metas ns ≡ Some (error_of_limit passed)
  end-first metas passed none is =
      ap (λ (l : List Numbered). refused_behind t p metas l) none ∙ ap (λ (o : Option LimitError). option_map error_of_limit o) is

  module _ (metas : List ClusterMeta) (n : Numbered) where
    abbrev others : Option MergeError
    others = refused_behind t p (metas ++ copied_meta n.source ∷ []) ns

    abbrev copied : Option LimitError → Option MergeError
    copied passed = option_or (option_map error_of_limit passed) others

    read-ahead : (entries : List TreesData) → reading_of n ≡ Ok entries
        → refused_behind t p metas (n ∷ ns) ≡ copied (passed_by_copy t p metas (copied_meta n.source).len)
    read-ahead entries read =
        ap (λ (r : Result (List TreesData) (ℕ × ReadError)). fault_or r (copied (passed_by_copy t p metas (copied_meta n.source).len))) read

    -- the next cluster has a fault
    pub fault-first : (e : ℕ × ReadError) → reading_of n ≡ Err e → refused_behind t p metas (n ∷ ns) ≡ Some (Defect e.0 e.1)
    fault-first e read =
        ap (λ (r : Result (List TreesData) (ℕ × ReadError)). fault_or r (copied (passed_by_copy t p metas (copied_meta n.source).len))) read

    -- its copy passes a limit
    pub copy-first : (entries : List TreesData) (passed : LimitError) → reading_of n ≡ Ok entries
        → passed_by_copy t p metas (copied_meta n.source).len ≡ Some passed
        → refused_behind t p metas (n ∷ ns) ≡ Some (error_of_limit passed)
    copy-first entries passed read is = read-ahead entries read ∙ ap copied is

    -- or none
    pub copy-fits : (entries : List TreesData) → reading_of n ≡ Ok entries
        → passed_by_copy t p metas (copied_meta n.source).len ≡ None
        → refused_behind t p metas (n ∷ ns) ≡ refused_behind t p (metas ++ copied_meta n.source ∷ []) ns
    copy-fits entries read is = read-ahead entries read ∙ ap copied is
