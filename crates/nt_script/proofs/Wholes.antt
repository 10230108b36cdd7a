-- The file of a script that is written whole: what it means, its numbers, and the limits that it passes.
use Rattle.std.proofs.Common.{◌≡◌, ◌∙◌, ap, sym, subst, ℕ, List, [], Some, None}
use Rattle.std.proofs.Common.{Bool}
use Rattle.nt_types.specs.ShapeData.{MemberData}
use Rattle.nt_types.specs.TreeData.{TreesData}
use Rattle.nt_outside.specs.Disk.{DiskState}
use Rattle.nt_grammar.specs.ReadingBack.{IsDescribed}
use Rattle.nt_grammar.specs.Rows.{Rows}
use Rattle.nt_grammar.specs.Table.{Table}
use Rattle.nt_book.specs.declared.limits.LimitError.{LimitError}
use Rattle.nt_book.specs.declared.meta.ClusterMeta.{ClusterMeta}
use Rattle.nt_book.specs.Kept.{IsBookKept}
use Rattle.nt_file_meaning.specs.Files.{Means}
use Rattle.nt_layout.specs.Laid.{Measures, AreMeasures}
use Rattle.nt_close.specs.Passing.{measures_of, passed_by_close}
use Rattle.nt_finished.specs.LateFiles.{IsLaidLate}
use Rattle.nt_seq.specs.Standing.{IsWriting}
use Rattle.nt_seq.specs.Writer.{SeqState}
use Rattle.nt_seq.specs.Written.{HasWritten}
use Rattle.nt_seq.specs.Closing.{IsFileOf, AreCounts}
use Rattle.nt_store.proofs.Passing.{Names}
use Rattle.nt_store.proofs.Whole.{measures}
use Rattle.nt_script.specs.declared.storing.Counts.{Counts}
use Rattle.nt_script.specs.Script.{Script, last_entries, and_field, read_script}
use Rattle.nt_script.specs.Clusters.{bad_line, fields_of_script, script_clusters, GrowsByScript}
use Rattle.nt_script.specs.Limits.{StandsWithin, IsOverEnd}
use Rattle.nt_script.specs.Passing.{PassesLimit, passes_closing}
use Rattle.nt_script.specs.Fitting.{MayFit}
use Rattle.nt_script.specs.Running.{IsDoneScript}
use Rattle.nt_script.specs.Whole.{clusters_of_text, IsScriptFile}
use Rattle.nt_script.specs.Filing.{AreNumbersOf}
use Rattle.nt_script.proofs.Passed.{stands_within, closed_over}
use Rattle.nt_script.proofs.Fitted.{closed_fits}

-- the law of late files
abbrev pub LateFilesMean : Type 0
LateFilesMean =
    (file : List ℕ) (t : Table) (clusters : List (List TreesData)) (m : Measures)
    → IsDescribed t → AreMeasures m → IsLaidLate file t clusters m → Means file t clusters

-- where no field is added the table stays
grows-none : (plain : Bool) (t : Table) (before : ℕ) (s : Script) (new : Table) → fields_of_script s ≡ []
    → GrowsByScript plain t before s new → new ≡ t
grows-none plain t before (last_entries es bad) new none grows = grows
grows-none plain t before (and_field es m rest) new none grows = absurd (cc none)

module _ {D : Type 0} (state : D → DiskState) (w : SeqState D) (F : List MemberData) (text : List ℕ) (first : Table)
    (rows : Rows F w.params.plain first) (done : IsDoneScript state F (Some text) first w.params w) where
  written_text : HasWritten state w (clusters_of_text w.params F text)
  written_text = subst (HasWritten state w) (ap (script_clusters w.params.cluster) (sym done.read)) done.written

  sound_text : bad_line (read_script F text) ≡ None
  sound_text = ap bad_line done.read ∙ done.sound

  grown_text : GrowsByScript w.params.plain first 0 (read_script F text) w.table
  grown_text = subst (λ (s : Script). GrowsByScript w.params.plain first 0 s w.table) (sym done.read) done.grows

  -- it may be within the limits, where its closing passes none
  fits_here : IsWriting state w → IsBookKept w.book → passed_by_close w.params w.table w.book ≡ None
      → MayFit F w.params (read_script F text)
  fits_here is kept none =
      subst (MayFit F w.params) (sym (done.read ∙ done.script_is))
      (closed_fits state w is kept none F first done.segments done.entries rows done.segments_grow done.keeps)

  pub file_here : LateFilesMean → IsWriting state w → IsBookKept w.book → passed_by_close w.params w.table w.book ≡ None
      → (image : List ℕ) → IsFileOf state w image → IsScriptFile w.params F text image
  file_here law is kept none image file = record {
    sound = sound_text;
    first = first;
    rows = rows;
    table = w.table;
    grows = grown_text;
    laid = file.late (clusters_of_text w.params F text) written_text;
    short = file.short (clusters_of_text w.params F text) written_text;
    unchanged = λ none.
        file.first F (subst (Rows F w.params.plain)
        (sym (grows-none w.params.plain first 0 (read_script F text) w.table none grown_text)) rows)
        (clusters_of_text w.params F text) written_text;
    means = law image w.table (clusters_of_text w.params F text) (measures_of w.params) file.described (measures w.params)
        (file.late (clusters_of_text w.params F text) written_text);
    fits = fits_here is kept none;
  }

  pub numbers_here : (counts : Counts) → AreCounts state w counts.clusters counts.entries → AreNumbersOf w.params F text counts
  numbers_here counts are =
      let both = are (clusters_of_text w.params F text) written_text in record { clusters = both.0; entries = both.1 }

  -- a limit that its closing passes
  pub over_here : IsWriting state w → IsBookKept w.book → (reached most : ℕ) (e : LimitError)
      → passed_by_close w.params w.table w.book ≡ Some e → Names e reached most
      → PassesLimit F w.params (read_script F text) reached most
  over_here is kept reached most e passed names = passes_closing (record {
    segments = done.segments;
    entries = done.entries;
    script_is = done.read ∙ done.script_is;
    written = record {
      first = first;
      rows = rows;
      table = w.table;
      grows = done.segments_grow;
      own = done.keeps.own;
      kept = done.keeps.kept;
      within = subst (StandsWithin w.table w.params) done.keeps.metas (stands_within state w is kept);
    };
    over = subst (λ (ms : List ClusterMeta). IsOverEnd w.table w.params ms reached most) done.keeps.metas
        (closed_over w.table w.params w.book is.closable.noted is.not_staged kept is.closable.begin e reached most passed names);
  })
