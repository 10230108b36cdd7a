-- A column of a cluster is read as what stands there.
use Rattle.std.proofs.Common.{◌≡◌, ℕ, ℤ, ◌^◌, ◌<◌, Bool, true, false, not, ◌&&◌, cond, List, [], ◌++◌, length, Ok, Err, refl, sym, ap}
use Rattle.std.proofs.Common.{subst, ◌∙◌}
use Rattle.std.specs.Prelude.{FitsSigned}
use Rattle.std.specs.Int.{w64, cast_signed}
use Rattle.std.proofs.lemmas.List.{append-nil}
use Rattle.std.proofs.lemmas.Int.{to_z-of_z}
use mir.ValLaws.{of_z_fits}
use Rattle.nt_num.specs.Place.{At}
use Rattle.nt_format.specs.Reading.{IsBytes}
use Rattle.nt_format.specs.Relations.{Agrees, With, Stands}
use Rattle.nt_pagelists.specs.declared.column.KnownColumn.{KnownColumn}
use Rattle.nt_pagelists.specs.declared.cluster.ClusterSummary.{ClusterSummary}
use Rattle.nt_pagelists.specs.declared.cluster.ColumnList.{ColumnList}
use Rattle.nt_pagelists.specs.declared.page.PageItem.{PageItem}
use Rattle.nt_pagelists.specs.Columns.{begins_inside, has_its_elements, has_its_offset, is_sound_column, judged}
use Rattle.nt_pagelists.specs.Pages.{column_list_at}
use Rattle.nt_pagelists.specs.Writing.{page_item_texts}
use Rattle.nt_pagelists.specs.ReadingBack.{ArePageItems}
use Rattle.nt_payloads.specs.Framed.{InList}
use Rattle.nt_payloads.specs.ListTexts.{index_word, IndexText, with_setting, suppressed, PagesText, ColumnText}
use Rattle.nt_payloads.specs.Conditions.{IsSoundIn}
use Rattle.nt_payloads.proofs.Texts.{Both, Done, Ended, reword, reword_open, seq_open, done_open, check_open}
use Rattle.nt_payloads.proofs.Frames.{in_list}
use Rattle.nt_payloads.proofs.Loops.{Behind}
use Rattle.nt_payloads.proofs.Pages.{ItemTexts, items}
use Rattle.nt_payloads.proofs.Indices.{IsIndex, word_back, index}

judged_by : {E : Type 0} (inside good : Bool) (d e : E)
    → Agrees (cond inside (Err d) (cond good (Ok tt) (Err e))) (λ (u : Unit {0}). (not inside && good) ≡ true)
judged_by true good d e = record { reads = λ u h. absurd cc; finds = λ u h. absurd cc }
judged_by false true d e = record { reads = λ u h. refl; finds = λ u h. refl }
judged_by false false d e = record { reads = λ u h. absurd cc; finds = λ u h. absurd cc }

-- what is judged well is sound
pub judging : (k : ClusterSummary) (id : ℕ) (c : KnownColumn) (before frame : ℕ) (pages : List PageItem) (offset : ℕ)
    → Agrees (judged k id c before frame pages offset) (λ u. is_sound_column k c before pages offset ≡ true)
unfolding judged
judging k id c before frame pages offset =
    judged_by (begins_inside k c) (has_its_elements k c pages && has_its_offset c before pages offset) _ _

-- a column of a cluster that has what it must have there
pub record ColumnIs (k : ClusterSummary) (c : KnownColumn) (before place : ℕ) (text : List ℕ) (l : ColumnList) : Type 0 where
  pub is : ColumnText place text l
  pub sound : IsSoundIn k c before l
  pub stored : c.is_open ≡ true → index_word l.offset < 2 ^ 63

-- the same of what stands in the frame
record PagesAre (k : ClusterSummary) (c : KnownColumn) (before frame count place : ℕ) (text : List ℕ) (l : ColumnList) : Type 0 where
  is : PagesText count place text l
  begins : l.inner ≡ frame
  sound : IsSoundIn k c before l
  stored : c.is_open ≡ true → index_word l.offset < 2 ^ 63

abbrev column_made : ℕ → ℕ → List PageItem → ColumnList
column_made frame word pages = record { inner = frame; offset = cast_signed w64 word; pages = pages }

abbrev PagesSteps : ClusterSummary → KnownColumn → ℕ → ℕ → ℕ → At → ℕ → List ℕ → ColumnList × At → Type 0
PagesSteps k c before frame count after =
    Both (Behind count [] ItemTexts) λ pages. Both (IsIndex c) λ word. λ place text read.
    With (λ (u : Unit {0}). is_sound_column k c before pages word ≡ true) (λ u. Done (column_made frame word pages, after) place text) read

column_steps : (k : ClusterSummary) (id : ℕ) (c : KnownColumn) (before : ℕ) (here : At) → IsBytes here.left
    → Agrees (column_list_at k id c before here) (Stands (InList (PagesAre k c before here.place) here.place) here)
unfolding column_list_at
column_steps k id c before here bytes =
    in_list _ bytes λ count inside after fi. reword_open (to count inside after) (from count inside after)
    (seq_open _ fi (items k.number id count [] inside fi) λ pages m fm. seq_open _ fm (index k id c here.place m fm) λ word n fn.
    check_open _ (judging k id c before here.place pages word) λ u s. done_open (column_made here.place word pages, after) fn)
  where
    to : (count : ℕ) (inside after : At) (text : List ℕ) (read : ColumnList × At)
        → PagesSteps k c before here.place count after inside.place text read
        → Ended (PagesAre k c before here.place count) after inside.place text read
    to count inside after text read t =
        let pages = t.head in
        let word = t.is_second.head in
        let index_is = t.is_second.is_first in
        let end = t.is_second.is_second in
        let nothing : t.is_second.second ≡ [] = end.second.none in
        let back : index_word (cast_signed w64 word) ≡ word = word_back word index_is.fits in
        let all : pages ≡ t.is_first.more = t.is_first.is in
        let parts : text ≡ page_item_texts pages ++ t.is_second.first =
        t.parts ∙ ap (λ (l : List ℕ). l ++ t.second) (t.is_first.such.0 ∙ ap (λ (ps : List PageItem). page_item_texts ps) (sym all))
        ∙ ap (λ (l : List ℕ). page_item_texts pages ++ l)
        (t.is_second.parts ∙ ap (λ (l : List ℕ). t.is_second.first ++ l) nothing ∙ append-nil t.is_second.first) in
        let made : PagesAre k c before here.place count inside.place text (column_made here.place word pages) = record {
          is = record {
            index = t.is_second.first;
            parts = parts;
            len = ap (λ (ps : List PageItem). length ps) all ∙ t.is_first.len;
            items = subst ArePageItems (sym all) t.is_first.such.1;
            is_index = index_is.is;
          };
          begins = refl;
          sound = subst (λ (n : ℕ). is_sound_column k c before pages n ≡ true) (sym back) end.first;
          stored = λ o. subst (λ (n : ℕ). n < 2 ^ 63) (sym back) (index_is.stored o);
        } in (
          subst (λ (l : ColumnList). PagesAre k c before here.place count inside.place text l)
              (sym (ap (λ (p : ColumnList × At). p.0) end.second.is)) made,
          ap (λ (p : ColumnList × At). p.1) end.second.is,
        )

    from : (count : ℕ) (inside after : At) (text : List ℕ) (read : ColumnList × At)
        → Ended (PagesAre k c before here.place count) after inside.place text read
        → PagesSteps k c before here.place count after inside.place text read
    from count inside after text read t =
        let l = read.0 in
        let p = t.0 in
        let word = index_word l.offset in
        let fits = index_fits p.is.index l.offset p.is.is_index in
        let back : cast_signed w64 word ≡ l.offset = to_z-of_z w64 l.offset fits in
        let made : read ≡ (column_made here.place word l.pages, after) =
        ap (λ (a : At). (l, a)) t.1 ∙ ap (λ (n : ℕ). (record { inner = n; offset = l.offset; pages = l.pages }, after)) p.begins
        ∙ ap (λ (z : ℤ). (record { inner = here.place; offset = z; pages = l.pages }, after)) (sym back) in
        record {
          head = l.pages;
          first = page_item_texts l.pages;
          second = p.is.index;
          parts = p.is.parts;
          is_first = record { more = l.pages; is = refl; len = p.is.len; such = (refl, p.is.items) };
          is_second = record {
            head = word;
            first = p.is.index;
            second = [];
            parts = sym (append-nil p.is.index);
            is_first = record {
              is = subst (λ (z : ℤ). IndexText p.is.index z) (sym back) p.is.is_index;
              fits = (of_z_fits w64 l.offset fits).fits;
              stored = p.stored;
            };
            is_second = record { middle = tt; first = p.sound; second = record { none = refl; is = made } };
          };
        }
      where
        index_fits : (t : List ℕ) (z : ℤ) → IndexText t z → FitsSigned w64 z
        index_fits t z (with_setting f low small) = f
        index_fits t z (suppressed f high) = f

pub column : (k : ClusterSummary) (id : ℕ) (c : KnownColumn) (before : ℕ) (here : At) → IsBytes here.left
    → Agrees (column_list_at k id c before here) (Stands (ColumnIs k c before here.place) here)
column k id c before here bytes = reword
    (λ text l t. record {
      is = record {
        begins = t.is.begins;
        pages = record { count = t.count; known = t.known; more = t.more; frame = t.frame; few = t.few; size = t.size; is = t.is.is };
      };
      sound = t.is.sound;
      stored = t.is.stored;
    })
    (λ text l t. record {
      count = t.is.pages.count;
      known = t.is.pages.known;
      more = t.is.pages.more;
      frame = t.is.pages.frame;
      few = t.is.pages.few;
      size = t.is.pages.size;
      is = record { is = t.is.pages.is; begins = t.is.begins; sound = t.sound; stored = t.stored };
    })
    (column_steps k id c before here bytes)
