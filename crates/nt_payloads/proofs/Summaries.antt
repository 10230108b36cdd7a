-- The summaries of a page list are read as what stands there.
use Rattle.std.proofs.Common.{◌≡◌, ℕ, zero, suc, ◌+◌, true, eqb, List, [], ◌∷◌, ◌++◌, length, refl, sym, ap, subst, ◌∙◌}
use Rattle.std.proofs.Common.{append_assoc, arith}
use Rattle.std.proofs.lemmas.Bool.{eqb-true, eq-eqb}
use Rattle.std.proofs.lemmas.List.{append-nil}
use Rattle.nt_num.specs.Place.{At}
use Rattle.nt_format.specs.Reading.{IsBytes}
use Rattle.nt_format.specs.Relations.{Agrees, Stands}
use Rattle.nt_pagelists.specs.declared.cluster.ClusterSummary.{ClusterSummary}
use Rattle.nt_pagelists.specs.declared.group.Group.{Group}
use Rattle.nt_pagelists.specs.Clusters.{summaries_on, summaries_at}
use Rattle.nt_payloads.specs.Framed.{InRecord, InList, Series, no_item, and_item, Items}
use Rattle.nt_payloads.proofs.Texts.{Both, Done, Ended, reword, reword_open, seq, seq_open, done, done_open}
use Rattle.nt_payloads.proofs.Tests.{choose_open, choose}
use Rattle.nt_payloads.proofs.Frames.{in_list}
use Rattle.nt_payloads.proofs.Loops.{series_parts, series_none}
use Rattle.nt_payloads.proofs.SummaryFrames.{FrameIs, SummaryIs, summary_is}

-- summaries are numbered from this one on, and each begins behind so many entries and those before it
abbrev pub AreNumbered : ℕ → ℕ → List ClusterSummary → Type 0
AreNumbered number entries [] = Unit {0}
AreNumbered number entries (k ∷ ks) = (k.number ≡ number) × (k.first ≡ entries) × AreNumbered (number + 1) (entries + k.entries) ks

-- so many entries with those of these clusters
abbrev pub with_entries : ℕ → List ClusterSummary → ℕ
with_entries entries [] = entries
with_entries entries (k ∷ ks) = with_entries (entries + k.entries) ks

-- so many summaries stand here behind those, and are so
record SummariesAre (n number entries : ℕ) (before : List ClusterSummary) (place : ℕ) (text : List ℕ)
    (read : List ClusterSummary × ℕ) : Type 0 where
  more : List ClusterSummary
  is : read.0 ≡ before ++ more
  len : length more ≡ n
  series : Series (InRecord SummaryIs) place text more
  numbered : AreNumbered number entries more
  sum : read.1 ≡ with_entries entries more

summaries_on_are : (n number entries : ℕ) (before : List ClusterSummary) (here : At) → IsBytes here.left
    → Agrees (summaries_on n number entries before here) (Stands (SummariesAre n number entries before here.place) here)
summaries_on_are zero number entries before here bytes = reword
    (λ text read d. record {
      more = [];
      is = ap (λ (p : List ClusterSummary × ℕ). p.0) d.is ∙ sym (append-nil before);
      len = refl;
      series = subst (λ (t : List ℕ). Series (InRecord SummaryIs) here.place t []) (sym d.none) no_item;
      numbered = tt;
      sum = ap (λ (p : List ClusterSummary × ℕ). p.1) d.is;
    })
    (λ text read a. none text read a.more a.is a.len a.series a.sum)
    (done (before, entries) bytes)
  where
    none : (text : List ℕ) (read : List ClusterSummary × ℕ) (more : List ClusterSummary) → read.0 ≡ before ++ more → length more ≡ 0
        → Series (InRecord SummaryIs) here.place text more
        → read.1 ≡ with_entries entries more → Done (before, entries) here.place text read
    none text read [] is len series sum =
        record {
          none = series_none here.place text series;
          is = ap (λ (l : List ClusterSummary). (l, read.1)) (is ∙ append-nil before)
              ∙ ap (λ (n : ℕ). (before, n)) sum;
        }
    none text read (k ∷ ks) is len series sum = absurd (omega (arith, len))
summaries_on_are (suc n) number entries before here bytes = reword
    (λ text read b. record {
      more = b.head ∷ b.is_second.more;
      is = b.is_second.is ∙ append_assoc before (b.head ∷ []) b.is_second.more;
      len = ap (λ (k : ℕ). suc k) b.is_second.len;
      series = subst (λ (t : List ℕ). Series (InRecord SummaryIs) here.place t (b.head ∷ b.is_second.more)) (sym b.parts)
          (and_item b.is_first.is b.is_second.series);
      numbered = (b.is_first.number_is, b.is_first.begins, b.is_second.numbered);
      sum = b.is_second.sum;
    })
    (λ text read a. some text read a.more a.is a.len a.series a.numbered a.sum)
    (seq _ bytes (summary_is number entries here bytes) λ k m fm. summaries_on_are n (number + 1) (entries + k.entries)
    (before ++ k ∷ []) m fm)
  where
    some : (text : List ℕ) (read : List ClusterSummary × ℕ) (more : List ClusterSummary) → read.0 ≡ before ++ more → length more ≡ suc n
        → Series (InRecord SummaryIs) here.place text more
        → AreNumbered number entries more → read.1 ≡ with_entries entries more
        → Both (FrameIs number entries) (λ k. SummariesAre n (number + 1) (entries + k.entries) (before ++ k ∷ [])) here.place text read
    some text read [] is len series numbered sum = absurd (omega (arith, len))
    some text read (k ∷ ks) is len series numbered sum =
        let p = series_parts here.place text k ks series in
        record {
          head = k;
          first = p.first;
          second = p.others;
          parts = p.parts;
          is_first = record { is = p.is_first; number_is = numbered.0; begins = numbered.1 };
          is_second = record {
            more = ks;
            is = is
                ∙ sym (append_assoc before (k ∷ []) ks);
            len = omega (arith, len);
            series = p.are_others;
            numbered = numbered.2;
            sum = sum;
          };
        }

-- the summaries of a group's clusters, in their list frame
pub record InSummaries (g : Group) (number entries count place : ℕ) (text : List ℕ) (ks : List ClusterSummary) : Type 0 where
  pub items : Items (InRecord SummaryIs) count place text ks
  pub counted : count ≡ g.clusters
  pub numbered : AreNumbered number entries ks
  pub span : with_entries entries ks ≡ entries + g.span

abbrev TotalIs : ℕ → At → (List ClusterSummary × ℕ) → ℕ → List ℕ → List ClusterSummary × At → Type 0
TotalIs total after all place text read = (eqb all.1 total ≡ true) × Done (all.0, after) place text read

abbrev SummariesSteps : Group → ℕ → ℕ → ℕ → At → ℕ → List ℕ → List ClusterSummary × At → Type 0
SummariesSteps g number entries count after =
    Both (λ place text all. (eqb count g.clusters ≡ true) × SummariesAre count number entries [] place text all)
    (TotalIs (entries + g.span) after)

pub summaries : (g : Group) (number entries : ℕ) (here : At) → IsBytes here.left
    → Agrees (summaries_at g number entries here) (Stands (InList (InSummaries g number entries) here.place) here)
unfolding summaries_at
summaries g number entries here bytes =
    in_list _ bytes λ count inside after fi. reword_open (to count inside after) (from count inside after)
    (seq_open _ fi (choose (eqb count g.clusters) _ (summaries_on_are count number entries [] inside fi)) λ all m fm. choose_open
    (eqb all.1 (entries + g.span)) _ (done_open (all.0, after) fm))
  where
    to : (count : ℕ) (inside after : At) (text : List ℕ) (read : List ClusterSummary × At)
        → SummariesSteps g number entries count after inside.place text read
        → Ended (InSummaries g number entries count) after inside.place text read
    to count inside after text read t =
        let all = t.head in
        let are = t.is_first.1 in
        let same : all.0 ≡ are.more = are.is in
        let parts : text ≡ t.first = t.parts ∙ ap (λ (l : List ℕ). t.first ++ l) t.is_second.1.none ∙ append-nil t.first in
        let made : InSummaries g number entries count inside.place text all.0 = record {
          items = record {
            len = ap (λ (ks : List ClusterSummary). length ks) same ∙ are.len;
            series = subst (λ (x : List ℕ). Series (InRecord SummaryIs) inside.place x all.0) (sym parts)
                (subst (λ (ks : List ClusterSummary). Series (InRecord SummaryIs) inside.place t.first ks) (sym same) are.series);
          };
          counted = eqb-true _ _ t.is_first.0;
          numbered = subst (λ (ks : List ClusterSummary). AreNumbered number entries ks) (sym same) are.numbered;
          span = ap (λ (ks : List ClusterSummary). with_entries entries ks) same ∙ sym are.sum ∙ eqb-true _ _ t.is_second.0;
        } in (
          subst (λ (ks : List ClusterSummary). InSummaries g number entries count inside.place text ks)
              (sym (ap (λ (p : List ClusterSummary × At). p.0) t.is_second.1.is)) made,
          ap (λ (p : List ClusterSummary × At). p.1) t.is_second.1.is,
        )

    from : (count : ℕ) (inside after : At) (text : List ℕ) (read : List ClusterSummary × At)
        → Ended (InSummaries g number entries count) after inside.place text read
        → SummariesSteps g number entries count after inside.place text read
    from count inside after text read t =
        let ks = read.0 in
        record {
          head = (ks, with_entries entries ks);
          first = text;
          second = [];
          parts = sym (append-nil text);
          is_first = (
            eq-eqb _ _ t.0.counted,
            record { more = ks; is = refl; len = t.0.items.len; series = t.0.items.series; numbered = t.0.numbered; sum = refl },
          );
          is_second = (eq-eqb _ _ t.0.span, record { none = refl; is = ap (λ (a : At). (ks, a)) t.1 });
        }
