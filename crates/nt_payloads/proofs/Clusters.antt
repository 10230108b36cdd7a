-- Clusters of a page list are read as what stands there.
use Rattle.std.proofs.Common.{◌≡◌, ℕ, ◌≤◌, true, false, ltb, eqb, List, [], ◌∷◌, ◌++◌, length, drop, refl, sym, ap, subst, ◌∙◌}
use Rattle.std.proofs.Common.{append_assoc, arith}
use Rattle.std.proofs.lemmas.Bool.{ltb-false, le-ltb}
use Rattle.std.proofs.lemmas.List.{append-nil}
use Rattle.nt_num.specs.Place.{At}
use Rattle.nt_format.specs.Reading.{IsBytes}
use Rattle.nt_format.specs.Relations.{Agrees, With, Stands}
use Rattle.nt_pagelists.specs.declared.column.KnownColumn.{KnownColumn}
use Rattle.nt_pagelists.specs.declared.cluster.ClusterSummary.{ClusterSummary}
use Rattle.nt_pagelists.specs.declared.cluster.ColumnList.{ColumnList}
use Rattle.nt_pagelists.specs.declared.cluster.ClusterList.{ClusterList}
use Rattle.nt_pagelists.specs.declared.group.Group.{Group}
use Rattle.nt_pagelists.specs.Clusters.{outer_list_at, cluster_list_at, with_elements, cluster_lists_on, cluster_lists_at}
use Rattle.nt_payloads.specs.Framed.{InList, Series, no_item, and_item, Items}
use Rattle.nt_payloads.specs.ListTexts.{ColumnText, ClusterText}
use Rattle.nt_payloads.specs.Conditions.{with_lists}
use Rattle.nt_payloads.proofs.Texts.{Opens, Both, Done, Ended, reword, reword_open, seq_open, done_open, check_open}
use Rattle.nt_payloads.proofs.Tests.{choose_open}
use Rattle.nt_payloads.proofs.Frames.{in_list_open, in_list_tested}
use Rattle.nt_payloads.proofs.Loops.{Behind, series_parts, series_none}
use Rattle.nt_payloads.proofs.ColumnLists.{AreFit, ColumnsAre, columns_are, AreUnlisted, unlisted, HasFit}

-- a cluster with this summary stands here, and its columns are so
pub record ClusterIs (k : ClusterSummary) (columns : List KnownColumn) (elements : List ℕ) (place : ℕ) (text : List ℕ)
    (c : ClusterList) : Type 0 where
  pub is : ClusterText place text c
  pub first : c.first ≡ k.first
  pub entries : c.entries ≡ k.entries
  pub few : length c.columns ≤ length columns
  pub fit : HasFit k columns elements c

-- the same of what stands in the frame
record InCluster (k : ClusterSummary) (columns : List KnownColumn) (elements : List ℕ) (frame count place : ℕ) (text : List ℕ)
    (c : ClusterList) : Type 0 where
  items : Items ColumnText count place text c.columns
  begins : c.outer ≡ frame
  first : c.first ≡ k.first
  entries : c.entries ≡ k.entries
  fit : HasFit k columns elements c

abbrev cluster_made : ClusterSummary → ℕ → List ColumnList → ClusterList
cluster_made k frame ls = record { first = k.first; entries = k.entries; outer = frame; columns = ls }

abbrev ClusterSteps : ClusterSummary → List KnownColumn → List ℕ → ℕ → ℕ → At → ℕ → List ℕ → ClusterList × At → Type 0
ClusterSteps k columns elements frame count after place text read =
    Both (Behind count [] (ColumnsAre k columns elements 0)) (λ lists. λ place text read.
    With (λ (u : Unit {0}). AreUnlisted k (drop count columns))
    (λ u. Done (cluster_made k frame lists, after) place text) read) place text read

cluster_steps : (k : ClusterSummary) (columns : List KnownColumn) (elements : List ℕ) (here : At) → IsBytes here.left
    → Agrees (cluster_list_at k columns elements here)
    (Stands (InList
    (λ count place text c. (ltb (length columns) count ≡ false)
    × InCluster k columns elements here.place count place text c) here.place) here)
unfolding cluster_list_at outer_list_at
cluster_steps k columns elements here bytes =
    in_list_tested (λ n. ltb (length columns) n) _ _ bytes λ count inside after fi. reword_open (to count inside after)
    (from count inside after)
    (seq_open _ fi (columns_are k columns elements count [] inside fi) λ lists m fm.
    check_open _ (unlisted k here.place count (drop count columns)) λ u s. done_open (cluster_made k here.place lists, after) fm)
  where
    to : (count : ℕ) (inside after : At) (text : List ℕ) (read : ClusterList × At)
        → ClusterSteps k columns elements here.place count after inside.place text read
        → Ended (InCluster k columns elements here.place count) after inside.place text read
    to count inside after text read t =
        let lists = t.head in
        let all : lists ≡ t.is_first.more = t.is_first.is in
        let len : length lists ≡ count = ap (λ (ls : List ColumnList). length ls) all ∙ t.is_first.len in
        let parts : text ≡ t.first = t.parts ∙ ap (λ (l : List ℕ). t.first ++ l) t.is_second.second.none ∙ append-nil t.first in
        let made : InCluster k columns elements here.place count inside.place text (cluster_made k here.place lists) = record {
          items = record {
            len = len;
            series =
                subst (λ (x : List ℕ). Series ColumnText inside.place x lists) (sym parts)
                (subst (λ (ls : List ColumnList). Series ColumnText inside.place t.first ls) (sym all) t.is_first.such.0);
          };
          begins = refl;
          first = refl;
          entries = refl;
          fit = record {
            listed = subst (λ (ls : List ColumnList). AreFit k columns elements 0 ls) (sym all) t.is_first.such.1;
            unlisted = subst (λ (n : ℕ). AreUnlisted k (drop n columns)) (sym len) t.is_second.first;
          };
        } in (
          subst (λ (c : ClusterList). InCluster k columns elements here.place count inside.place text c)
              (sym (ap (λ (p : ClusterList × At). p.0) t.is_second.second.is)) made,
          ap (λ (p : ClusterList × At). p.1) t.is_second.second.is,
        )

    from : (count : ℕ) (inside after : At) (text : List ℕ) (read : ClusterList × At)
        → Ended (InCluster k columns elements here.place count) after inside.place text read
        → ClusterSteps k columns elements here.place count after inside.place text read
    from count inside after text read t =
        let c = read.0 in
        let p = t.0 in
        let made : read ≡ (cluster_made k here.place c.columns, after) =
        ap (λ (a : At). (c, a)) t.1
        ∙ ap (λ (n : ℕ). (record { first = n; entries = c.entries; outer = c.outer; columns = c.columns }, after)) p.first
        ∙ ap (λ (n : ℕ). (record { first = k.first; entries = n; outer = c.outer; columns = c.columns }, after)) p.entries
        ∙ ap (λ (n : ℕ). (record { first = k.first; entries = k.entries; outer = n; columns = c.columns }, after)) p.begins in
        record {
          head = c.columns;
          first = text;
          second = [];
          parts = sym (append-nil text);
          is_first = record { more = c.columns; is = refl; len = p.items.len; such = (p.items.series, p.fit.listed) };
          is_second = record {
            middle = tt;
            first = subst (λ (n : ℕ). AreUnlisted k (drop n columns)) p.items.len p.fit.unlisted;
            second = record { none = refl; is = made };
          };
        }

pub cluster_is : (k : ClusterSummary) (columns : List KnownColumn) (elements : List ℕ) (here : At) → IsBytes here.left
    → Agrees (cluster_list_at k columns elements here) (Stands (ClusterIs k columns elements here.place) here)
cluster_is k columns elements here bytes = reword
    (λ text c t. record {
      is = record {
        begins = t.is.1.begins;
        columns = record {
          count = t.count;
          known = t.known;
          more = t.more;
          frame = t.frame;
          few = t.few;
          size = t.size;
          is = t.is.1.items;
        };
      };
      first = t.is.1.first;
      entries = t.is.1.entries;
      few = omega (arith, t.is.1.items.len, ltb-false _ _ t.is.0);
      fit = t.is.1.fit;
    })
    (λ text c t. record {
      count = t.is.columns.count;
      known = t.is.columns.known;
      more = t.is.columns.more;
      frame = t.is.columns.frame;
      few = t.is.columns.few;
      size = t.is.columns.size;
      is = (
        le-ltb _ _ (omega (arith, t.is.columns.is.len, t.few)),
        record { items = t.is.columns.is; begins = t.is.begins; first = t.first; entries = t.entries; fit = t.fit },
      );
    })
    (cluster_steps k columns elements here bytes)

-- each cluster is that of its summary, and has what it must have
abbrev pub AllFit : List KnownColumn → List ClusterSummary → List ℕ → List ClusterList → Type 0
AllFit columns [] elements [] = Unit {0}
AllFit columns [] elements (c ∷ cs) = ⊥
AllFit columns (k ∷ ks) elements [] = ⊥
AllFit columns (k ∷ ks) elements (c ∷ cs) = (c.first ≡ k.first) × (c.entries ≡ k.entries) × (length c.columns ≤ length columns)
    × HasFit k columns elements c × AllFit columns ks (with_elements elements c.columns) cs

-- clusters of these summaries stand here behind those, and are so
pub record ListsAre (columns : List KnownColumn) (ks : List ClusterSummary) (elements : List ℕ) (lists : List ClusterList) (place : ℕ)
    (text : List ℕ) (read : List ClusterList × List ℕ) : Type 0 where
  pub more : List ClusterList
  pub is : read.0 ≡ lists ++ more
  pub series : Series ClusterText place text more
  pub fit : AllFit columns ks elements more
  pub elements_are : read.1 ≡ with_lists elements more

lists_are : (columns : List KnownColumn) (ks : List ClusterSummary) (elements : List ℕ) (lists : List ClusterList) (here : At)
    → IsBytes here.left
    → Agrees (cluster_lists_on columns ks elements lists here) (Opens (ListsAre columns ks elements lists) here)
lists_are columns [] elements lists here bytes = reword_open
    (λ text read d. record {
      more = [];
      is = ap (λ (p : List ClusterList × List ℕ). p.0) d.is ∙ sym (append-nil lists);
      series = subst (λ (t : List ℕ). Series ClusterText here.place t []) (sym d.none) no_item;
      fit = tt;
      elements_are = ap (λ (p : List ClusterList × List ℕ). p.1) d.is;
    })
    (λ text read a. none text read a.more a.is a.series a.fit a.elements_are)
    (done_open (lists, elements) bytes)
  where
    none : (text : List ℕ) (read : List ClusterList × List ℕ) (more : List ClusterList) → read.0 ≡ lists ++ more
        → Series ClusterText here.place text more → AllFit columns [] elements more
        → read.1 ≡ with_lists elements more → Done (lists, elements) here.place text read
    none text read [] is series fit es =
        record {
          none = series_none here.place text series;
          is = ap (λ (l : List ClusterList). (l, read.1)) (is ∙ append-nil lists)
              ∙ ap (λ (l : List ℕ). (lists, l)) es;
        }
    none text read (c ∷ cs) is series fit es = absurd fit
lists_are columns (k ∷ ks) elements lists here bytes = reword_open
    (λ text read b. record {
      more = b.head ∷ b.is_second.more;
      is = b.is_second.is ∙ append_assoc lists (b.head ∷ []) b.is_second.more;
      series = subst (λ (t : List ℕ). Series ClusterText here.place t (b.head ∷ b.is_second.more)) (sym b.parts)
          (and_item b.is_first.is b.is_second.series);
      fit = (b.is_first.first, b.is_first.entries, b.is_first.few, b.is_first.fit, b.is_second.fit);
      elements_are = b.is_second.elements_are;
    })
    (λ text read a. some text read a.more a.is a.series a.fit a.elements_are)
    (seq_open _ bytes (cluster_is k columns elements here bytes) λ c m fm. lists_are columns ks (with_elements elements c.columns)
    (lists ++ c ∷ []) m fm)
  where
    some : (text : List ℕ) (read : List ClusterList × List ℕ) (more : List ClusterList) → read.0 ≡ lists ++ more
        → Series ClusterText here.place text more → AllFit columns (k ∷ ks) elements more
        → read.1 ≡ with_lists elements more
        → Both (ClusterIs k columns elements)
        (λ c. ListsAre columns ks (with_elements elements c.columns) (lists ++ c ∷ [])) here.place text read
    some text read [] is series fit es = absurd fit
    some text read (c ∷ cs) is series fit es =
        let p = series_parts here.place text c cs series in
        record {
          head = c;
          first = p.first;
          second = p.others;
          parts = p.parts;
          is_first = record { is = p.is_first; first = fit.0; entries = fit.1; few = fit.2; fit = fit.3 };
          is_second = record {
            more = cs;
            is = is
                ∙ sym (append_assoc lists (c ∷ []) cs);
            series = p.are_others;
            fit = fit.4;
            elements_are = es;
          };
        }

-- the list frame of a group's clusters
abbrev pub InClusters : Group → List KnownColumn → List ClusterSummary → List ℕ → ℕ → ℕ → List ℕ → List ClusterList × List ℕ → Type 0
InClusters g columns ks elements count place text read = (eqb count g.clusters ≡ true) × ListsAre columns ks elements [] place text read

pub clusters_are : (g : Group) (columns : List KnownColumn) (ks : List ClusterSummary) (elements : List ℕ) (here : At) → IsBytes here.left
    → Agrees (cluster_lists_at g columns ks elements here) (Opens (InList (InClusters g columns ks elements)) here)
unfolding cluster_lists_at
clusters_are g columns ks elements here bytes =
    in_list_open _ bytes λ count inside after fi. choose_open (eqb count g.clusters) _ (lists_are columns ks elements [] inside fi)
