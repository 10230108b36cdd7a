-- The payload of a page list is read as the clusters that it lists.
use Rattle.std.proofs.Common.{◌≡◌, ℕ, ◌+◌, ◌^◌, ◌<◌, true, eqb, List, [], ◌∷◌, ◌++◌, length, refl, sym, ap, subst, ◌∙◌, append_assoc, arith}
use Rattle.std.specs.Int.{w64, to_le_bytes}
use Rattle.std.proofs.lemmas.Bool.{eqb-true, eq-eqb}
use Rattle.std.proofs.lemmas.List.{append-nil}
use Rattle.nt_num.specs.Place.{At}
use Rattle.nt_format.specs.Reading.{standing, IsBytes}
use Rattle.nt_format.specs.Relations.{Agrees, With, Stands}
use Rattle.nt_format.proofs.Relations.{in_words}
use Rattle.nt_pagelists.specs.declared.column.KnownColumn.{KnownColumn}
use Rattle.nt_pagelists.specs.declared.cluster.ClusterSummary.{ClusterSummary}
use Rattle.nt_pagelists.specs.declared.cluster.ClusterList.{ClusterList}
use Rattle.nt_pagelists.specs.declared.group.Group.{Group}
use Rattle.nt_pagelists.specs.Clusters.{with_elements}
use Rattle.nt_pagelists.specs.PageLists.{ProgressCounts, with_group, header_sum_at, page_list_at}
use Rattle.nt_payloads.specs.Framed.{InRecord, InList, Series, no_item, and_item, Items}
use Rattle.nt_payloads.specs.ListTexts.{ClusterText, SummaryText}
use Rattle.nt_payloads.specs.Conditions.{with_lists, IsPageList}
use Rattle.nt_payloads.proofs.Texts.{Opens, Both, part_bytes, seq_open}
use Rattle.nt_payloads.proofs.Tests.{tested, map_open, Word64, word64}
use Rattle.nt_payloads.proofs.Clusters.{AllFit, InClusters, clusters_are}
use Rattle.nt_payloads.proofs.Summaries.{InSummaries, summaries}
use Rattle.nt_payloads.proofs.SummaryFrames.{SummaryIs}
use Rattle.nt_payloads.proofs.Conditions.{behind, summaries_from, all_fit, len_fit, sum_fit}

-- the checksum of the header
abbrev pub SumWord : ℕ → ℕ → List ℕ → ℕ → Type 0
SumWord sum place text n = Word64 place text n × (eqb n sum ≡ true)

pub header_sum : (sum : ℕ) (here : At) → IsBytes here.left → Agrees (header_sum_at sum here) (Stands (SumWord sum here.place) here)
unfolding header_sum_at
header_sum sum here bytes = tested _ _ (word64 here bytes)

abbrev Steps : ℕ → Group → List KnownColumn → ProgressCounts → ℕ → List ℕ → List ClusterList × ProgressCounts → Type 0
Steps sum g columns p =
    Both (SumWord sum) λ word. Both (InList (InSummaries g p.clusters p.entries)) λ ks. λ place text.
    With (InList (InClusters g columns ks p.elements) place text) (λ all read. read ≡ (all.0, with_group p g all.1))

steps : (sum : ℕ) (g : Group) (columns : List KnownColumn) (p : ProgressCounts) (here : At) → IsBytes here.left
    → Agrees (page_list_at sum g columns p here) (Opens (Steps sum g columns p) here)
unfolding page_list_at
steps sum g columns p here bytes =
    seq_open _ bytes (header_sum sum here bytes) λ word m fm. seq_open _ fm (summaries g p.clusters p.entries m fm) λ ks n fn.
    map_open (λ all. (all.0, with_group p g all.1)) (clusters_are g columns ks p.elements n fn)

summary_text : (place : ℕ) (text : List ℕ) (k : ClusterSummary) (c : ClusterList) → c.first ≡ k.first → c.entries ≡ k.entries
    → InRecord SummaryIs place text k → InRecord SummaryText place text c
summary_text place text k c f e t = record {
  known = t.known;
  more = t.more;
  frame = t.frame;
  size = t.size;
  is = record {
    parts = t.is.parts ∙ ap (λ (n : ℕ). to_le_bytes w64 n ++ to_le_bytes w64 k.entries) (sym f)
        ∙ ap (λ (n : ℕ). to_le_bytes w64 c.first ++ to_le_bytes w64 n) (sym e);
    first = subst (λ (n : ℕ). n < 2 ^ 64) (sym f) t.is.first;
    entries = subst (λ (n : ℕ). n < 2 ^ 56) (sym e) t.is.entries;
  };
}

summary_texts : (columns : List KnownColumn) (elements : List ℕ) (ks : List ClusterSummary) (cs : List ClusterList)
    → AllFit columns ks elements cs → (place : ℕ) (text : List ℕ)
    → Series (InRecord SummaryIs) place text ks → Series (InRecord SummaryText) place text cs
summary_texts columns elements [] [] fit place text no_item = no_item
summary_texts columns elements [] (c ∷ cs) fit place text s = absurd fit
summary_texts columns elements (k ∷ ks) [] fit place text s = absurd fit
summary_texts columns elements (k ∷ ks) (c ∷ cs) fit place text (and_item {text = a} {texts = b} first others) =
    and_item (summary_text place a k c fit.0 fit.1 first)
    (summary_texts columns (with_elements elements c.columns) ks cs fit.4 (place + length a) b others)

summaries_back : (number : ℕ) (cs : List ClusterList) (place : ℕ) (text : List ℕ) → Series (InRecord SummaryText) place text cs
    → Series (InRecord SummaryIs) place text (summaries_from number cs)
summaries_back number [] place text no_item = no_item
summaries_back number (c ∷ cs) place text (and_item {text = a} {texts = b} first others) = and_item
    (record {
      known = first.known;
      more = first.more;
      frame = first.frame;
      size = first.size;
      is = record { parts = first.is.parts; first = first.is.first; entries = first.is.entries };
    })
    (summaries_back (number + 1) cs (place + length a) b others)

len_from : (number : ℕ) (cs : List ClusterList) → length (summaries_from number cs) ≡ length cs
len_from number [] = refl
len_from number (c ∷ cs) = omega (arith, len_from (number + 1) cs)

grouped : (a b c d : List ℕ) → (a ++ (b ++ c)) ++ d ≡ a ++ (b ++ (c ++ d))
grouped a b c d = simp append_assoc

pub listed : (sum : ℕ) (g : Group) (columns : List KnownColumn) (p : ProgressCounts) (place : ℕ) (payload : List ℕ) → IsBytes payload
    → Agrees (page_list_at sum g columns p (standing place payload)) (IsPageList sum g columns p place payload)
listed sum g columns p place payload bytes = in_words to from (steps sum g columns p (standing place payload) bytes)
  where
    found : (word : ℕ) (ks : List ClusterSummary) (all : List ClusterList × List ℕ) (a b c more : List ℕ)
        → payload ≡ a ++ (b ++ (c ++ more)) → SumWord sum place a word
        → InList (InSummaries g p.clusters p.entries) (place + length a) b ks
        → InList (InClusters g columns ks p.elements) (place + length a + length b) c all
        → IsPageList sum g columns p place payload (all.0, with_group p g all.1)
    found word ks all a b c more parts w s l =
        let same : a ≡ to_le_bytes w64 sum = w.0.is ∙ ap (λ (n : ℕ). to_le_bytes w64 n) (eqb-true _ _ w.1) in
        let eight : place + length a ≡ place + 8 = ap (λ (t : List ℕ). place + length t) same in
        let more_is : all.0 ≡ l.is.1.more = l.is.1.is in
        let fit : AllFit columns ks p.elements all.0 =
        subst (λ (cs : List ClusterList). AllFit columns ks p.elements cs) (sym more_is) l.is.1.fit in
        let len : length all.0 ≡ length ks = len_fit columns p.elements ks all.0 fit in
        record {
          text = record {
            summaries = b;
            clusters = c;
            more = more;
            parts = parts ∙ ap (λ (t : List ℕ). t ++ (b ++ (c ++ more))) same;
            fits = subst (λ (n : ℕ). n < 2 ^ 64) (eqb-true _ _ w.1) w.0.fits;
            are_summaries = subst (λ (at : ℕ). InList (Items (InRecord SummaryText)) at b all.0) eight (record {
              count = s.count;
              known = s.known;
              more = s.more;
              frame = s.frame;
              few = s.few;
              size = s.size;
              is = record {
                len = len
                    ∙ s.is.items.len;
                series = summary_texts columns p.elements ks all.0 fit (place + length a + 12) s.known s.is.items.series;
              };
            });
            are_clusters = subst (λ (at : ℕ). InList (Items ClusterText) (at + length b) c all.0) eight (record {
              count = l.count;
              known = l.known;
              more = l.more;
              frame = l.frame;
              few = l.few;
              size = l.size;
              is = record {
                len = len ∙ s.is.items.len ∙ s.is.counted ∙ sym (eqb-true _ _ l.is.0);
                series = subst (λ (cs : List ClusterList). Series ClusterText (place + length a + length b + 12) l.known cs)
                    (sym more_is) l.is.1.series;
              };
            });
          };
          count = len ∙ s.is.items.len ∙ s.is.counted;
          span = omega (arith, sum_fit columns p.elements p.entries ks all.0 fit, s.is.span);
          behind = behind columns p.clusters p.entries p.elements ks all.0 fit s.is.numbered;
          after = ap (λ (es : List ℕ). with_group p g es)
              (l.is.1.elements_are ∙ ap (λ (cs : List ClusterList). with_lists p.elements cs) (sym more_is));
        }

    to : (read : List ClusterList × ProgressCounts) → Opens (Steps sum g columns p) (standing place payload) read
        → IsPageList sum g columns p place payload read
    to read o =
        let t = o.is in
        let u = t.is_second in
        let parts : payload ≡ t.first ++ (u.first ++ (u.second ++ o.rest.left)) =
        o.takes.parts ∙ ap (λ (x : List ℕ). x ++ o.rest.left) (t.parts ∙ ap (λ (x : List ℕ). t.first ++ x) u.parts)
        ∙ grouped t.first u.first u.second o.rest.left in
        subst (IsPageList sum g columns p place payload) (sym u.is_second.second)
        (found t.head u.head u.is_second.middle t.first u.first u.second o.rest.left parts t.is_first u.is_first u.is_second.first)

    from : (read : List ClusterList × ProgressCounts) → IsPageList sum g columns p place payload read
        → Opens (Steps sum g columns p) (standing place payload) read
    from read i =
        let cs = read.0 in
        let t = i.text in
        let a = to_le_bytes w64 sum in
        let both = all_fit columns p.clusters p.entries p.elements cs i.behind in
        let ks = summaries_from p.clusters cs in
        let s = t.are_summaries in
        let l = t.are_clusters in
        let parts : payload ≡ (a ++ (t.summaries ++ t.clusters)) ++ t.more = t.parts ∙ sym (grouped a t.summaries t.clusters t.more) in
        record {
          text = a ++ (t.summaries ++ t.clusters);
          rest = standing (place + length (a ++ (t.summaries ++ t.clusters))) t.more;
          takes = record { parts = parts; place = refl; bytes = more_bytes (a ++ (t.summaries ++ t.clusters)) t.more parts };
          is = record {
            head = sum;
            first = a;
            second = t.summaries ++ t.clusters;
            parts = refl;
            is_first = (record { is = refl; fits = t.fits }, eq-eqb _ _ refl);
            is_second = record {
              head = ks;
              first = t.summaries;
              second = t.clusters;
              parts = refl;
              is_first = record {
                count = s.count;
                known = s.known;
                more = s.more;
                frame = s.frame;
                few = s.few;
                size = s.size;
                is = record {
                  items = record {
                    len = len_from p.clusters cs
                        ∙ s.is.len;
                    series = summaries_back p.clusters cs (place + 8 + 12) s.known s.is.series;
                  };
                  counted = sym s.is.len ∙ i.count;
                  numbered = both.1;
                  span = omega (arith, sum_fit columns p.elements p.entries ks cs both.0, i.span);
                };
              };
              is_second = record {
                middle = (cs, with_lists p.elements cs);
                first = record {
                  count = l.count;
                  known = l.known;
                  more = l.more;
                  frame = l.frame;
                  few = l.few;
                  size = l.size;
                  is = (
                    eq-eqb _ _ (sym l.is.len ∙ i.count),
                    record { more = cs; is = refl; series = l.is.series; fit = both.0; elements_are = refl },
                  );
                };
                second = ap (λ (q : ProgressCounts). (cs, q)) i.after;
              };
            };
          };
        }
      where
        more_bytes : (front more : List ℕ) → payload ≡ front ++ more → IsBytes more
        more_bytes front more is = part_bytes front more [] payload bytes (is ∙ ap (λ (x : List ℕ). front ++ x) (sym (append-nil more)))
