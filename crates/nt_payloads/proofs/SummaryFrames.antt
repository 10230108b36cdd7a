-- A summary is read as what stands in its record frame.
use Rattle.std.proofs.Common.{◌≡◌, ℕ, ◌^◌, ◌<◌, true, ltb, eqb, List, [], ◌++◌, refl, sym, ap, subst, ◌∙◌}
use Rattle.std.proofs.Common.{arith}
use Rattle.std.specs.Int.{w64, to_le_bytes}
use Rattle.std.proofs.lemmas.Bool.{ltb-true, lt-ltb, eqb-true, eq-eqb}
use Rattle.std.proofs.lemmas.List.{append-nil}
use Rattle.nt_num.specs.Place.{At}
use Rattle.nt_format.specs.Reading.{IsBytes}
use Rattle.nt_format.specs.Relations.{Agrees, Stands}
use Rattle.nt_pagelists.specs.declared.cluster.ClusterSummary.{ClusterSummary}
use Rattle.nt_pagelists.specs.Clusters.{first_entry_at, entry_count_at, summary_at}
use Rattle.nt_payloads.specs.Framed.{InRecord}
use Rattle.nt_payloads.proofs.Texts.{Both, Done, Ended, reword, reword_open, seq_open, done_open}
use Rattle.nt_payloads.proofs.Tests.{tested, Word64, word64}
use Rattle.nt_payloads.proofs.Frames.{in_record}

-- what stands in the record frame of a summary
pub record SummaryIs (place : ℕ) (text : List ℕ) (k : ClusterSummary) : Type 0 where
  pub parts : text ≡ to_le_bytes w64 k.first ++ to_le_bytes w64 k.entries
  pub first : k.first < 2 ^ 64
  pub entries : k.entries < 2 ^ 56

-- the same, of the cluster of this number behind so many entries
record NumberedIs (number entries place : ℕ) (text : List ℕ) (k : ClusterSummary) : Type 0 where
  is : SummaryIs place text k
  number_is : k.number ≡ number
  begins : k.first ≡ entries

abbrev summary_made : ℕ → ℕ → ℕ → ClusterSummary
summary_made number first entries = record { number = number; first = first; entries = entries }

abbrev FirstWord : ℕ → ℕ → List ℕ → ℕ → Type 0
FirstWord entries place text n = Word64 place text n × (eqb n entries ≡ true)

abbrev CountWord : ℕ → List ℕ → ℕ → Type 0
CountWord place text n = Word64 place text n × (ltb n (2 ^ 56) ≡ true)

abbrev SummarySteps : ℕ → ℕ → At → ℕ → List ℕ → ClusterSummary × At → Type 0
SummarySteps number entries after = Both (FirstWord entries) λ first. Both CountWord λ count. Done (summary_made number first count, after)

summary_steps : (number entries : ℕ) (here : At) → IsBytes here.left
    → Agrees (summary_at number entries here) (Stands (InRecord (NumberedIs number entries) here.place) here)
unfolding summary_at first_entry_at entry_count_at
summary_steps number entries here bytes = in_record _ bytes λ inside after fi. reword_open (to inside after) (from inside after)
    (seq_open _ fi (tested _ _ (word64 inside fi)) λ first m fm. seq_open _ fm (tested _ _ (word64 m fm)) λ count n fn. done_open
    (summary_made number first count, after) fn)
  where
    to : (inside after : At) (text : List ℕ) (read : ClusterSummary × At) → SummarySteps number entries after inside.place text read
        → Ended (NumberedIs number entries) after inside.place text read
    to inside after text read t =
        let end = t.is_second.is_second in
        let parts : text ≡ to_le_bytes w64 t.head ++ to_le_bytes w64 t.is_second.head =
        t.parts ∙ ap (λ (l : List ℕ). l ++ t.second) t.is_first.0.is
        ∙ ap (λ (l : List ℕ). to_le_bytes w64 t.head ++ l)
        (t.is_second.parts ∙ ap (λ (l : List ℕ). t.is_second.first ++ l) end.none ∙ append-nil t.is_second.first
        ∙ t.is_second.is_first.0.is) in
        let made : NumberedIs number entries inside.place text (summary_made number t.head t.is_second.head) = record {
          is = record { parts = parts; first = t.is_first.0.fits; entries = ltb-true _ _ t.is_second.is_first.1 };
          number_is = refl;
          begins = eqb-true _ _ t.is_first.1;
        } in (
          subst (λ (k : ClusterSummary). NumberedIs number entries inside.place text k)
              (sym (ap (λ (p : ClusterSummary × At). p.0) end.is)) made,
          ap (λ (p : ClusterSummary × At). p.1) end.is,
        )

    from : (inside after : At) (text : List ℕ) (read : ClusterSummary × At)
        → Ended (NumberedIs number entries) after inside.place text read → SummarySteps number entries after inside.place text read
    from inside after text read t =
        let k = read.0 in
        let p = t.0 in
        let made : read ≡ (summary_made number k.first k.entries, after) = ap (λ (a : At). (k, a)) t.1
        ∙ ap (λ (n : ℕ). (record { number = n; first = k.first; entries = k.entries }, after)) p.number_is in
        record {
          head = k.first;
          first = to_le_bytes w64 k.first;
          second = to_le_bytes w64 k.entries;
          parts = p.is.parts;
          is_first = (record { is = refl; fits = p.is.first }, eq-eqb _ _ p.begins);
          is_second = record {
            head = k.entries;
            first = to_le_bytes w64 k.entries;
            second = [];
            parts = sym (append-nil (to_le_bytes w64 k.entries));
            is_first = (record { is = refl; fits = omega (arith, p.is.entries) }, lt-ltb _ _ p.is.entries);
            is_second = record { none = refl; is = made };
          };
        }

-- the record frame of the summary of the cluster of this number behind so many entries
pub record FrameIs (number entries place : ℕ) (text : List ℕ) (k : ClusterSummary) : Type 0 where
  pub is : InRecord SummaryIs place text k
  pub number_is : k.number ≡ number
  pub begins : k.first ≡ entries

pub summary_is : (number entries : ℕ) (here : At) → IsBytes here.left
    → Agrees (summary_at number entries here) (Stands (FrameIs number entries here.place) here)
summary_is number entries here bytes = reword
    (λ text k t. record {
      is = record { known = t.known; more = t.more; frame = t.frame; size = t.size; is = t.is.is };
      number_is = t.is.number_is;
      begins = t.is.begins;
    })
    (λ text k t. record {
      known = t.is.known;
      more = t.is.more;
      frame = t.is.frame;
      size = t.is.size;
      is = record { is = t.is.is; number_is = t.number_is; begins = t.begins };
    })
    (summary_steps number entries here bytes)
