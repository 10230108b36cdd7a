-- A staged book of the tests, in which one range more is reserved and filled.
use Rattle.std.proofs.Common.{◌≡◌, ◌∙◌, refl, sym, ap, subst, ℕ, ◌==◌, ◌&&◌, Bool, true, false, cond, List, [], ◌∷◌, ◌++◌, length, map}
use Rattle.std.proofs.Common.{Some, None}
use Rattle.std.specs.Prelude.{slice_get}
use Rattle.std.specs.List.{AllByRecursion}
use Rattle.std.proofs.lemmas.Bool.{eq-eqb}
use Rattle.nt_machine.specs.declared.entry.Entry.{Entry}
use Rattle.nt_machine.specs.History.{Cluster, Out, Settled, handed_back, is_out, own_of, publishers_of, ranges_of}
use Rattle.nt_machine.specs.Legal.{IsFilledRange, IsOut}
use Rattle.nt_machine.proofs.Legality.{ranges_of-snoc}
use Rattle.nt_machine.proofs.Publishers.{publishers-snoc}
use Rattle.nt_book.specs.declared.meta.ClusterMeta.{ClusterMeta}
use Rattle.nt_book.specs.Books.{BookData, book_ranges}
use Rattle.nt_book.specs.Entries.{reserved_entry, settled_entry}
use Rattle.nt_close.specs.Unpublished.{IsAllUnpublished}

at_end : (before : List (Cluster ClusterMeta)) (c : Cluster ClusterMeta) → slice_get (before ++ c ∷ []) (length before) ≡ Some c
at_end [] c = refl
at_end (b ∷ bs) c = at_end bs c

abbrev reserved : ℕ → ℕ → ClusterMeta → Cluster ClusterMeta
reserved n start meta = record { context = meta.context; number = n; start = start; len = meta.len; meta = meta; state = Out }

-- the range is out
pub out-staged : (old new : List (Entry ClusterMeta)) (n start : ℕ) (meta : ClusterMeta) → n ≡ length (ranges_of old)
    → new ≡ old ++ reserved_entry n start meta ∷ [] → IsOut (ranges_of new) meta.context n
out-staged old new n start meta number is =
    let grown : ranges_of new ≡ ranges_of old ++ reserved n start meta ∷ [] =
    ap (λ (l : List (Entry ClusterMeta)). ranges_of l) is ∙ ranges_of-snoc old (reserved_entry n start meta) in
    record {
      cluster = reserved n start meta;
      at = ap (λ (l : List (Cluster ClusterMeta)). slice_get l n) grown
          ∙ (ap (λ (m : ℕ). slice_get (ranges_of old ++ reserved n start meta ∷ []) m) number ∙ at_end (ranges_of old) _);
      own = refl;
      out = refl;
    }

filled-back : (i n : ℕ) (cs : List (Cluster ClusterMeta)) (c : Cluster ClusterMeta) → AllByRecursion IsFilledRange cs
    → c.context ≡ i → c.number ≡ n → c.state ≡ Out
    → AllByRecursion IsFilledRange (map (handed_back i n (Settled None)) (cs ++ c ∷ []))
filled-back i n [] c h mine here out = (
  subst (λ (b : Bool). IsFilledRange (cond b (record c { state = Settled None }) c))
      (sym (ap (λ (b : Bool). b && c.number == n && is_out c.state) (eq-eqb c.context i mine)
      ∙ (ap (λ (b : Bool). b && is_out c.state) (eq-eqb c.number n here) ∙ ap is_out out))) tt,
  tt,
)
filled-back i n (d ∷ cs) c h mine here out =
    (stays (d.context == i && d.number == n && is_out d.state), filled-back i n cs c h.1 mine here out)
  where
    stays : (b : Bool) → IsFilledRange (cond b (record d { state = Settled None }) d)
    stays true = tt
    stays false = h.0

-- and then it is filled
pub all-filled-more : (old mid new : BookData) (n start : ℕ) (meta : ClusterMeta) → IsAllUnpublished old
    → mid.history ≡ old.history ++ reserved_entry n start meta ∷ [] → new.staged ≡ old.staged
    → new.history ≡ mid.history ++ settled_entry meta.context n ∷ [] → IsAllUnpublished new
all-filled-more old mid new n start meta h reserves same settles =
    let e : Entry ClusterMeta = reserved_entry n start meta in
    let back : Entry ClusterMeta = settled_entry meta.context n in
    let all : new.history ≡ (old.history ++ e ∷ []) ++ back ∷ [] =
    settles ∙ ap (λ (l : List (Entry ClusterMeta)). l ++ back ∷ []) reserves in
    let ranges : book_ranges new
    ≡ map (handed_back meta.context n (Settled None)) (book_ranges old ++ reserved n start meta ∷ []) =
    ap (λ (l : List (Entry ClusterMeta)). ranges_of l) all ∙ (ranges_of-snoc (old.history ++ e ∷ []) back
    ∙ ap (λ (l : List (Cluster ClusterMeta)). map (handed_back meta.context n (Settled None)) l) (ranges_of-snoc old.history e)) in
    record {
      staged = same ∙ h.staged;
      unpublished = ap (λ (l : List (Entry ClusterMeta)). publishers_of l) all ∙ (publishers-snoc (old.history ++ e ∷ []) back
          ∙ ap (λ (l : List ℕ). l ++ []) (publishers-snoc old.history e ∙ ap (λ (l : List ℕ). l ++ []) h.unpublished));
      filled = subst (AllByRecursion IsFilledRange) (sym ranges)
          (filled-back meta.context n (book_ranges old) (reserved n start meta) h.filled refl refl refl);
    }

-- all ranges of a context are filled
pub own-settled : (cs : List (Cluster ClusterMeta)) (i : ℕ) → AllByRecursion IsFilledRange cs → AllByRecursion IsFilledRange (own_of cs i)
own-settled [] i h = tt
own-settled (c ∷ cs) i h = at (c.context == i) (own-settled cs i h.1)
  where
    at : (b : Bool) → AllByRecursion IsFilledRange (own_of cs i) → AllByRecursion IsFilledRange (cond b (c ∷ own_of cs i) (own_of cs i))
    at true rest = (h.0, rest)
    at false rest = rest
