-- What is required of columns by their ids is what is required of them one after the other.
use Rattle.std.proofs.Common.{◌≡◌, ℕ, zero, suc, ◌+◌, ◌-◌, ◌^◌, ◌<◌, ◌≤◌, Bool, true, false, not, ◌&&◌, ◌||◌, List, [], ◌∷◌, length, get_or}
use Rattle.std.proofs.Common.{drop, refl, sym, ap, subst, ◌∙◌, arith, inl, inr}
use Rattle.std.proofs.lemmas.Bool.{cases_lt}
use Rattle.std.proofs.lemmas.List.{get_or-drop, get_or_past, length-drop}
use Rattle.nt_pagelists.specs.declared.column.KnownColumn.{KnownColumn}
use Rattle.nt_pagelists.specs.declared.cluster.ClusterSummary.{ClusterSummary}
use Rattle.nt_pagelists.specs.declared.cluster.ColumnList.{ColumnList}
use Rattle.nt_pagelists.specs.declared.cluster.ClusterList.{ClusterList}
use Rattle.nt_pagelists.specs.Columns.{unknown_column, is_sound_column, begins_inside, has_its_elements, has_its_offset}
use Rattle.nt_pagelists.specs.Clusters.{with_elements}
use Rattle.nt_file_meaning.specs.Clusters.{no_list}
use Rattle.nt_payloads.specs.ListTexts.{index_word}
use Rattle.nt_payloads.specs.Conditions.{summary_of, IsSoundIn, AreClustersBehind, entries_of_lists}
use Rattle.nt_payloads.proofs.ColumnLists.{IsFit, AreFit, AreUnlisted, HasFit}
use Rattle.nt_payloads.proofs.Clusters.{AllFit}
use Rattle.nt_payloads.proofs.Summaries.{AreNumbered, with_entries}

fit_at : (k : ClusterSummary) (columns : List KnownColumn) (elements : List ℕ) (id : ℕ) (ls : List ColumnList)
    → AreFit k columns elements id ls
    → (i n : ℕ) → i < length ls → id + i ≡ n → IsFit k columns elements n (get_or ls i no_list)
fit_at k columns elements id [] fit i n h e = absurd (omega arith)
fit_at k columns elements id (l ∷ ls) fit zero n h e = subst (λ (m : ℕ). IsFit k columns elements m l) (omega (arith, e)) fit.0
fit_at k columns elements id (l ∷ ls) fit (suc i) n h e = fit_at k columns elements (suc id) ls fit.1 i n (omega arith) (omega (arith, e))

each_fit : (k : ClusterSummary) (columns : List KnownColumn) (elements : List ℕ) (id : ℕ) (ls : List ColumnList)
    → ((i n : ℕ) → i < length ls → id + i ≡ n → IsFit k columns elements n (get_or ls i no_list)) → AreFit k columns elements id ls
each_fit k columns elements id [] h = tt
each_fit k columns elements id (l ∷ ls) h =
    (h 0 id (omega arith) (omega arith), each_fit k columns elements (suc id) ls (λ i n lt e. h (suc i) n (omega arith) (omega (arith, e))))

unlisted_at : (k : ClusterSummary) (cs : List KnownColumn) → AreUnlisted k cs → (i : ℕ) → i < length cs
    → is_sound_column k (get_or cs i unknown_column) 0 [] 0 ≡ true
unlisted_at k [] u i h = absurd (omega arith)
unlisted_at k (c ∷ cs) u zero h = u.0
unlisted_at k (c ∷ cs) u (suc i) h = unlisted_at k cs u.1 i (omega arith)

each_unlisted : (k : ClusterSummary) (cs : List KnownColumn)
    → ((i : ℕ) → i < length cs → is_sound_column k (get_or cs i unknown_column) 0 [] 0 ≡ true) → AreUnlisted k cs
each_unlisted k [] h = tt
each_unlisted k (c ∷ cs) h = (h 0 (omega arith), each_unlisted k cs (λ i lt. h (suc i) (omega arith)))

offset_free : (o same : Bool) → (not o || true || same) ≡ true
offset_free true same = refl
offset_free false same = refl

-- where a column has no page, neither its index nor its earlier elements matter
pageless : (k : ClusterSummary) (c : KnownColumn) (before offset : ℕ) → is_sound_column k c before [] offset ≡ is_sound_column k c 0 [] 0
pageless k c before offset =
    let one : has_its_offset c before [] offset ≡ true = offset_free c.is_open _ in
    let other : has_its_offset c 0 [] 0 ≡ true = offset_free c.is_open _ in
    ap (λ (b : Bool). not (begins_inside k c) && (has_its_elements k c [] && b)) (one ∙ sym other)

-- each column by its id
record IsFine (k : ClusterSummary) (columns : List KnownColumn) (elements : List ℕ) (ls : List ColumnList) : Type 0 where
  sound : (id : ℕ) → id < length columns → IsSoundIn k (get_or columns id unknown_column) (get_or elements id 0) (get_or ls id no_list)
  stored : (id : ℕ) → id < length ls → (get_or columns id unknown_column).is_open ≡ true → index_word (get_or ls id no_list).offset < 2 ^ 63

is_fine : (k : ClusterSummary) (columns : List KnownColumn) (elements : List ℕ) (c : ClusterList) → length c.columns ≤ length columns
    → HasFit k columns elements c → IsFine k columns elements c.columns
is_fine k columns elements c few fit = record {
  sound = λ id lt. elim (cases_lt id (length c.columns)) [
    | inl listed ↦ (fit_at k columns elements 0 c.columns fit.listed id id listed (omega arith)).sound
    | inr past ↦ unlisted id lt past
  ];
  stored = λ id lt. (fit_at k columns elements 0 c.columns fit.listed id id lt (omega arith)).stored;
}
  where
    unlisted : (id : ℕ) → id < length columns → length c.columns ≤ id
        → IsSoundIn k (get_or columns id unknown_column) (get_or elements id 0) (get_or c.columns id no_list)
    unlisted id lt past =
        let n : ℕ = length c.columns in
        let at : n + (id - n) ≡ id = omega arith in
        let sound = unlisted_at k (drop n columns) fit.unlisted (id - n) (omega (arith, length-drop n columns)) in
        let same : get_or (drop n columns) (id - n) unknown_column ≡ get_or columns id unknown_column =
        get_or-drop n columns (id - n) unknown_column ∙ ap (λ (i : ℕ). get_or columns i unknown_column) at in
        let here = subst (λ (k2 : KnownColumn). is_sound_column k k2 0 [] 0 ≡ true) same sound in
        subst (IsSoundIn k (get_or columns id unknown_column) (get_or elements id 0)) (sym (get_or_past c.columns id no_list past))
        (pageless k (get_or columns id unknown_column) (get_or elements id 0) 0 ∙ here)

has_fit : (k : ClusterSummary) (columns : List KnownColumn) (elements : List ℕ) (c : ClusterList) → length c.columns ≤ length columns
    → IsFine k columns elements c.columns → HasFit k columns elements c
has_fit k columns elements c few fine = record {
  listed = each_fit k columns elements 0 c.columns
      (λ i n lt e. subst (λ (m : ℕ). IsFit k columns elements m (get_or c.columns i no_list)) (omega (arith, e))
      (record { sound = fine.sound i (omega (arith, few, lt)); stored = fine.stored i lt }));
  unlisted = each_unlisted k (drop (length c.columns) columns) (λ i lt. unlisted i lt);
}
  where
    unlisted : (i : ℕ) → i < length (drop (length c.columns) columns)
        → is_sound_column k (get_or (drop (length c.columns) columns) i unknown_column) 0 [] 0 ≡ true
    unlisted i lt =
        let id : ℕ = length c.columns + i in
        let past : length c.columns ≤ id = omega arith in
        let sound = fine.sound id (omega (arith, lt, length-drop (length c.columns) columns)) in
        let none = subst (IsSoundIn k (get_or columns id unknown_column) (get_or elements id 0))
        (get_or_past c.columns id no_list past) sound in
        let same : get_or (drop (length c.columns) columns) i unknown_column ≡ get_or columns id unknown_column =
        get_or-drop (length c.columns) columns i unknown_column in
        subst (λ (k2 : KnownColumn). is_sound_column k k2 0 [] 0 ≡ true) (sym same)
        (sym (pageless k (get_or columns id unknown_column) (get_or elements id 0) 0) ∙ none)

summary_is : (number : ℕ) (k : ClusterSummary) (c : ClusterList) → k.number ≡ number → c.first ≡ k.first → c.entries ≡ k.entries
    → k ≡ summary_of number c
summary_is number k c n f e =
    ap (λ (x : ℕ). record { number = x; first = k.first; entries = k.entries }) n
    ∙ ap (λ (x : ℕ). record { number = number; first = x; entries = k.entries }) (sym f)
    ∙ ap (λ (x : ℕ). record { number = number; first = c.first; entries = x }) (sym e)

pub behind : (columns : List KnownColumn) (number entries : ℕ) (elements : List ℕ) (ks : List ClusterSummary) (cs : List ClusterList)
    → AllFit columns ks elements cs → AreNumbered number entries ks
    → AreClustersBehind columns number entries elements cs
behind columns number entries elements [] [] fit numbered = tt
behind columns number entries elements [] (c ∷ cs) fit numbered = absurd fit
behind columns number entries elements (k ∷ ks) [] fit numbered = absurd fit
behind columns number entries elements (k ∷ ks) (c ∷ cs) fit numbered =
    let fine = is_fine (summary_of number c) columns elements c fit.2
    (subst (λ (s : ClusterSummary). HasFit s columns elements c) (summary_is number k c numbered.0 fit.0 fit.1) fit.3) in (
      record { begins = fit.0 ∙ numbered.1; few = fit.2; sound = fine.sound; stored = fine.stored },
      subst (λ (n : ℕ). AreClustersBehind columns (number + 1) n (with_elements elements c.columns) cs)
          (ap (λ (n : ℕ). entries + n) (sym fit.1))
          (behind columns (number + 1) (entries + k.entries) (with_elements elements c.columns) ks cs fit.4 numbered.2),
    )

-- the summaries of clusters from this number on
abbrev pub summaries_from : ℕ → List ClusterList → List ClusterSummary
summaries_from number [] = []
summaries_from number (c ∷ cs) = summary_of number c ∷ summaries_from (number + 1) cs

pub all_fit : (columns : List KnownColumn) (number entries : ℕ) (elements : List ℕ) (cs : List ClusterList)
    → AreClustersBehind columns number entries elements cs
    → AllFit columns (summaries_from number cs) elements cs × AreNumbered number entries (summaries_from number cs)
all_fit columns number entries elements [] b = (tt, tt)
all_fit columns number entries elements (c ∷ cs) b =
    let others = all_fit columns (number + 1) (entries + c.entries) (with_elements elements c.columns) cs b.1 in
    let fit = has_fit (summary_of number c) columns elements c b.0.few (record { sound = b.0.sound; stored = b.0.stored }) in
    ((refl, refl, b.0.few, fit, others.0), (refl, b.0.begins, others.1))

pub len_fit : (columns : List KnownColumn) (elements : List ℕ) (ks : List ClusterSummary) (cs : List ClusterList)
    → AllFit columns ks elements cs → length cs ≡ length ks
len_fit columns elements [] [] fit = refl
len_fit columns elements [] (c ∷ cs) fit = absurd fit
len_fit columns elements (k ∷ ks) [] fit = absurd fit
len_fit columns elements (k ∷ ks) (c ∷ cs) fit = ap (λ (n : ℕ). suc n) (len_fit columns (with_elements elements c.columns) ks cs fit.4)

pub sum_fit : (columns : List KnownColumn) (elements : List ℕ) (entries : ℕ) (ks : List ClusterSummary) (cs : List ClusterList)
    → AllFit columns ks elements cs → with_entries entries ks ≡ entries + entries_of_lists cs
sum_fit columns elements entries [] [] fit = omega arith
sum_fit columns elements entries [] (c ∷ cs) fit = absurd fit
sum_fit columns elements entries (k ∷ ks) [] fit = absurd fit
sum_fit columns elements entries (k ∷ ks) (c ∷ cs) fit =
    omega (arith, sum_fit columns (with_elements elements c.columns) (entries + k.entries) ks cs fit.4, fit.1)
