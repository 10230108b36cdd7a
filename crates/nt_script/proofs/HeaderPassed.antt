-- A limit that a script passes where its file is begun, and one that it passes nowhere.
use Rattle.std.proofs.Common.{◌≡◌, sym, refl, subst, ℕ, ◌≤◌, Bool, true, false, List, length, Some, None, if◌then◌else◌}
use Rattle.std.proofs.Common.{arith}
use Rattle.std.specs.Prelude.{nat_lt}
use Rattle.std.proofs.lemmas.Bool.Decides.{nat_tests}
use Rattle.nt_lists.proofs.Variants.{some_is}
use Rattle.nt_types.specs.ShapeData.{MemberData}
use Rattle.nt_grammar.specs.Rows.{Rows}
use Rattle.nt_grammar.specs.Table.{Table}
use Rattle.nt_book.specs.declared.limits.Limits.{Limits}
use Rattle.nt_book.specs.declared.limits.LimitError.{LimitError}
use Rattle.nt_book.specs.declared.limits.LimitError.TheVariants as limit
use Rattle.nt_book.specs.declared.params.Params.{Params}
use Rattle.nt_pagelists.specs.Blobs.{blob_len}
use Rattle.nt_layout.specs.Headers.{clusters_place, header_object}
use Rattle.nt_close.specs.Passing.{passed_by_begin}
use Rattle.nt_script.specs.Script.{Script}
use Rattle.nt_script.specs.Clusters.{GrowsByScript}
use Rattle.nt_script.specs.Limits.{TellsLimit}
use Rattle.nt_script.specs.Fitting.{WholePasses, whole_begun, whole_file}
use Rattle.nt_script.proofs.Headers.{header-described, place-grown}
use Rattle.nt_script.proofs.WouldBe.{types-described}
use Rattle.nt_script.proofs.Counted.{counts-all}

module _ (fields : List MemberData) (p : Params) (s : Script) (reached most : ℕ) (first table : Table) (rows : Rows fields p.plain first)
    (grows : GrowsByScript p.plain first 0 s table) where
  abbrev header : ℕ
  header = blob_len (length (header_object first))

  at : (a b : Bool) (f : LimitError) → nat_lt p.limits.range header ≡ a → nat_lt p.limits.file (clusters_place first) ≡ b
      → (if a then Some (limit.RangeTooLarge header p.limits.range)
      else if b then Some (limit.FileTooLarge (clusters_place first) p.limits.file) else None) ≡ Some f
      → TellsLimit p f reached most → WholePasses first table p s reached most
  at true b f x y named told =
      let is = subst (λ (g : LimitError). TellsLimit p g reached most) (sym (some_is _ _ named)) told in
      whole_begun is.0 is.1 (grind (arith, nat_tests, x, is.0, is.1))
  at false true f x y named told =
      let is = subst (λ (g : LimitError). TellsLimit p g reached most) (sym (some_is _ _ named)) told in
      let all = counts-all p first 0 s table (types-described fields p.plain first rows) grows in
      let same = place-grown p.plain first 0 s table (header-described fields p.plain first rows) grows in
      whole_file all.0 all.1 (omega (arith, is.0, same)) is.1 (grind (arith, nat_tests, y, is.0, is.1))
  at false false f x y named told = absurd (cc named)

  -- the whole file passes the limit that its header passes, or is no shorter
  pub begun_passed : (error : LimitError) → passed_by_begin p.limits first ≡ Some error → TellsLimit p error reached most
      → WholePasses first table p s reached most
  begun_passed error passed tells =
      at (nat_lt p.limits.range header) (nat_lt p.limits.file (clusters_place first)) error refl refl passed tells

-- a header that passes no limit is no longer than a range may get
pub header_fits : (limits : Limits) (t : Table) → passed_by_begin limits t ≡ None → blob_len (length (header_object t)) ≤ limits.range
header_fits limits t none = short (nat_lt limits.range (blob_len (length (header_object t)))) refl none
  where
    short : (a : Bool) → nat_lt limits.range (blob_len (length (header_object t))) ≡ a
        → (if a then Some (limit.RangeTooLarge (blob_len (length (header_object t))) limits.range)
        else if nat_lt limits.file (clusters_place t) then Some (limit.FileTooLarge (clusters_place t) limits.file) else None) ≡ None
        → blob_len (length (header_object t)) ≤ limits.range
    short true above is = absurd (cc is)
    short false above is = grind (arith, nat_tests, above)
