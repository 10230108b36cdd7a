-- The page lists of a book that grows are noted still.
use Rattle.std.proofs.Common.{◌≡◌, ◌∙◌, ap, sym, refl, subst, ℕ, zero, suc, ◌+◌, ◌*◌, ◌<◌, ◌≤◌, Bool, List, [], ◌∷◌, ◌++◌, length}
use Rattle.std.proofs.Common.{map, take, Option, Some, None, true, false, arith, add-one, suc-mul, mul-le-mul_right, append-nil}
use Rattle.std.specs.Prelude.{replicate, slice_index_or}
use Rattle.std.specs.List.{AllByRecursion}
use Rattle.std.proofs.lemmas.Bool.{eqb-true, false≢true}
use Rattle.std.proofs.lemmas.List.{length-append, length-replicate}
use Rattle.nt_machine.specs.History.{Cluster, Out, clusters_of}
use Rattle.nt_grammar.specs.Table.{Table}
use Rattle.nt_book.specs.declared.list.ListPlace.{ListPlace}
use Rattle.nt_book.specs.declared.list.NotedList.{NotedList}
use Rattle.nt_book.specs.declared.list.Tear.{Tear}
use Rattle.nt_book.specs.declared.limits.Limits.{Limits}
use Rattle.nt_book.specs.declared.meta.ClusterMeta.{ClusterMeta}
use Rattle.nt_book.specs.declared.params.Params.{Params}
use Rattle.nt_book.specs.Books.{BookData, book_clusters, is_due, noted_at}
use Rattle.nt_book.specs.Entries.{committed_entry}
use Rattle.nt_book.specs.Kept.{IsBookKept}
use Rattle.nt_book.specs.Limiting.{limit_error}
use Rattle.nt_book.specs.Listing.{clusters_listed, group_size, is_due_after, no_noted}
use Rattle.nt_book.proofs.Fitting.{limit_error-none}
use Rattle.nt_pagelists.specs.Due.{due_object, due_span, group_sum}
use Rattle.nt_pagelists.specs.Objects.{list_object}
use Rattle.nt_pagelists.specs.Staying.{StaysBelow, without_fate}
use Rattle.nt_pagelists.proofs.ListsStay.{list-stays}
use Rattle.nt_pagelists.proofs.Named.{clusters-unstaged}
use Rattle.nt_layout.specs.Arranged.{group_for}
use Rattle.nt_layout.specs.Headers.{header_sum}
use Rattle.nt_layout.specs.Beside.{full_span}
use Rattle.nt_close.specs.Filled.{IsNotedOf, AreListsNoted}
use Rattle.nt_close.proofs.Left.{listed-times}
use Rattle.test_close.specs.Notes.{KeepsNotes}
use Rattle.test_close.proofs.Out.{ranges_after}

-- where no limit is passed
pub no_limit_passed : (limits : Limits) (end count len : ℕ) → limit_error limits end count len ≡ None
    → (len ≤ limits.range) × (end + len ≤ limits.file)
no_limit_passed limits end count len is = let all = limit_error-none limits end count len is in (all.0, all.1)

-- what stands behind 42 bytes of room
pub behind_key : (list object : List ℕ) → list ≡ replicate 42 0 ++ object → length list ≡ 42 + length object
behind_key list object is =
    ap (λ (l : List ℕ). length l) is ∙ length-append (replicate 42 0) object
    ∙ ap (λ (n : ℕ). n + length object) (length-replicate {A = ℕ} 42 0)

-- ---- lists with one more

all-more : (P : ℕ → NotedList → Type 0) (ls : List NotedList) (x : NotedList)
    → ((k : ℕ) → k < length ls → P k (slice_index_or ls k no_noted)) → P (length ls) x
    → (k : ℕ) → k < length (ls ++ x ∷ []) → P k (slice_index_or (ls ++ x ∷ []) k no_noted)
all-more P [] x before last zero less = last
all-more P [] x before last (suc k) less = absurd (omega (arith, less))
all-more P (l ∷ ls) x before last zero less = before 0 (omega arith)
all-more P (l ∷ ls) x before last (suc k) less =
    all-more (λ (j : ℕ). P (suc j)) ls x (λ j below. before (suc j) (omega (arith, below))) last k (omega (arith, less))

short-more : (most : ℕ) (ls : List NotedList) (x : NotedList) → AllByRecursion (λ (l : NotedList). l.len ≤ most) ls → x.len ≤ most
    → AllByRecursion (λ (l : NotedList). l.len ≤ most) (ls ++ x ∷ [])
short-more most [] x short last = (last, tt)
short-more most (l ∷ ls) x short last = (short.0, short-more most ls x short.1 last)

-- ---- clusters with one more

fewer : (n : ℕ) (cs ds : List (Cluster ClusterMeta)) → n ≤ length cs → take n (cs ++ ds) ≡ take n cs
fewer zero cs ds le = refl
fewer (suc n) [] ds le = absurd (omega (arith, le))
fewer (suc n) (c ∷ cs) ds le = ap (λ (l : List (Cluster ClusterMeta)). c ∷ l) (fewer n cs ds (omega (arith, le)))

-- ---- books

module _ (old new : BookData) (kept : IsBookKept old) (more : List (Cluster ClusterMeta))
    (grown : book_clusters new ≡ book_clusters old ++ more) (firsts : new.firsts ≡ old.firsts) where
  stays : (n : ℕ) → n ≤ length (book_clusters old) → StaysBelow n old new
  stays n le = record {
    clusters = ap (λ (cs : List (Cluster ClusterMeta)). map without_fate (take n cs)) grown
        ∙ ap (map without_fate) (fewer n (book_clusters old) more le);
    firsts = λ column less. ap (λ (l : List ℕ). slice_index_or l column 0) firsts;
  }

  -- what is noted of a full group
  note-stays : (sum most k : ℕ) (l : NotedList) → k * most + most ≤ length (book_clusters old)
      → IsNotedOf sum old (full_span most k) l → IsNotedOf sum new (full_span most k) l
  note-stays sum most k l le noted =
      let same : list_object sum new (full_span most k) ≡ list_object sum old (full_span most k) =
      list-stays sum old new (full_span most k) kept le (stays (k * most + most) le) in
      record {
        size = noted.size ∙ ap length (sym same);
        len = noted.len ∙ ap (λ (object : List ℕ). 42 + length object) (sym same);
      }

  -- and what is noted of each group
  notes-beside : (t : Table) (p : Params) → AreListsNoted t p old → old.group ≡ Some (p.group, header_sum t) → (k : ℕ)
      → k < length old.lists → IsNotedOf (header_sum t) new (full_span p.group k) (noted_at old k)
  notes-beside t p noted group k less =
      let next : (k + 1) * p.group ≡ k * p.group + p.group = rw (add-one k, suc-mul k p.group) refl in
      let below : (k + 1) * p.group ≤ length old.lists * p.group = mul-le-mul_right p.group (omega (arith, less)) in
      let listed : clusters_listed p.group old.lists ≤ length (book_clusters old) =
      subst (λ (g : Option (ℕ × ℕ)). clusters_listed (group_size g) old.lists ≤ length (book_clusters old)) group kept.listed in
      note-stays (header_sum t) p.group k (noted_at old k)
      (omega (arith, next, below, listed, listed-times p.group old.lists)) (noted.noted k less)

  -- a staged book has none
  notes-stay : (t : Table) (p : Params) → AreListsNoted t p old → (k : ℕ) → k < length old.lists
      → IsNotedOf (header_sum t) new (full_span p.group k) (noted_at old k)
  notes-stay t p noted k less = at p.staged noted.group
    where
      at : (b : Bool) → old.group ≡ group_for b p.group (header_sum t)
          → IsNotedOf (header_sum t) new (full_span p.group k) (noted_at old k)
      at true none =
          absurd (omega (arith, less, ap (λ (ls : List NotedList). length ls) (kept.none_between none).none_noted))
      at false group = notes-beside t p noted group k less

  -- and the rest stays
  keeps-grown : new.begin ≡ old.begin → new.limits ≡ old.limits → new.group ≡ old.group → new.staged ≡ old.staged
      → new.lists ≡ old.lists → KeepsNotes old new
  keeps-grown begin limits group staged lists t p notes = record {
    begin = begin ∙ notes.begin;
    noted = record {
      staged = staged ∙ notes.noted.staged;
      group = group ∙ notes.noted.group;
      noted = λ k less.
          subst (λ (ls : List NotedList). IsNotedOf (header_sum t) new (full_span p.group k) (slice_index_or ls k no_noted)) (sym lists)
          (notes-stay t p notes.noted k (subst (λ (ls : List NotedList). k < length ls) lists less));
      short = subst (λ (ls : List NotedList). AllByRecursion (λ (l : NotedList). l.len ≤ p.limits.range) ls) (sym lists)
          notes.noted.short;
    };
    limits = limits ∙ notes.limits;
    columns = ap (λ (l : List ℕ). length l) firsts ∙ notes.columns;
  }

-- other memory
pub keeps-spare : (old new : BookData) (spare : ℕ) → IsBookKept old → new ≡ record old { spare = spare } → KeepsNotes old new
keeps-spare old new spare kept is =
    keeps-grown old new kept [] (ap (λ (b : BookData). book_clusters b) is ∙ sym (append-nil (book_clusters old)))
    (ap (λ (b : BookData). b.firsts) is) (ap (λ (b : BookData). b.begin) is) (ap (λ (b : BookData). b.limits) is)
    (ap (λ (b : BookData). b.group) is) (ap (λ (b : BookData). b.staged) is) (ap (λ (b : BookData). b.lists) is)

-- a page list that failed
pub keeps-torn : (old new : BookData) (torn : Option Tear) → IsBookKept old → new ≡ record old { torn = torn } → KeepsNotes old new
keeps-torn old new torn kept is =
    keeps-grown old new kept [] (ap (λ (b : BookData). book_clusters b) is ∙ sym (append-nil (book_clusters old)))
    (ap (λ (b : BookData). b.firsts) is) (ap (λ (b : BookData). b.begin) is) (ap (λ (b : BookData). b.limits) is)
    (ap (λ (b : BookData). b.group) is) (ap (λ (b : BookData). b.staged) is) (ap (λ (b : BookData). b.lists) is)

-- a cluster more
pub keeps-cluster : (old new : BookData) (n start spare : ℕ) (meta : ClusterMeta) → IsBookKept old → old.staged ≡ false
    → new ≡ record old { history = old.history ++ committed_entry n start meta ∷ []; spare = spare } → KeepsNotes old new
keeps-cluster old new n start spare meta kept flat is =
    let c : Cluster ClusterMeta =
    record { context = meta.context; number = n; start = start; len = meta.len; meta = meta; state = Out } in
    let e = committed_entry n start meta in
    keeps-grown old new kept (c ∷ [])
    (ap (λ (b : BookData). book_clusters b) is
    ∙ (ap (λ (b : Bool). clusters_of b (old.history ++ e ∷ [])) flat
    ∙ (ranges_after old.history e ∙ ap (λ (cs : List (Cluster ClusterMeta)). cs ++ c ∷ []) (sym (clusters-unstaged old flat)))))
    (ap (λ (b : BookData). b.firsts) is) (ap (λ (b : BookData). b.begin) is) (ap (λ (b : BookData). b.limits) is)
    (ap (λ (b : BookData). b.group) is) (ap (λ (b : BookData). b.staged) is) (ap (λ (b : BookData). b.lists) is)

-- without page lists, whatever else changes
pub keeps-nothing : (old new : BookData) → new.begin ≡ old.begin → new.limits ≡ old.limits → new.group ≡ old.group
    → new.staged ≡ old.staged → new.firsts ≡ old.firsts → new.lists ≡ [] → KeepsNotes old new
keeps-nothing old new begin limits group staged firsts none t p notes = record {
  begin = begin ∙ notes.begin;
  noted = record {
    staged = staged ∙ notes.noted.staged;
    group = group ∙ notes.noted.group;
    noted = λ k less. absurd (omega (arith, less, ap length none));
    short = subst (λ (ls : List NotedList). AllByRecursion (λ (l : NotedList). l.len ≤ p.limits.range) ls) (sym none) tt;
  };
  limits = limits ∙ notes.limits;
  columns = ap (λ (l : List ℕ). length l) firsts ∙ notes.columns;
}

-- where a page list is due, the last group is full
full-due : (o : Option (ℕ × ℕ)) (g : ℕ × ℕ) (lists : List NotedList) (torn : Option Tear) (n : ℕ) → o ≡ Some g
    → is_due_after o lists torn n ≡ true → n ≡ clusters_listed g.0 lists + g.0
full-due o g lists torn n is due =
    at torn (ap (λ (k : Option (ℕ × ℕ)). is_due_after k lists torn n) (sym is) ∙ due)
  where
    at : (torn : Option Tear) → is_due_after (Some g) lists torn n ≡ true → n ≡ clusters_listed g.0 lists + g.0
    at None now = eqb-true n (clusters_listed g.0 lists + g.0) now
    at (Some t) now = cc

-- a book that is due a page list has groups, and isn't staged
grouped-due : (b : Bool) (most sum : ℕ) (o : Option (ℕ × ℕ)) (lists : List NotedList) (torn : Option Tear) (n : ℕ)
    → o ≡ group_for b most sum → is_due_after o lists torn n ≡ true → o ≡ Some (most, sum)
grouped-due true most sum o lists torn n is due =
    absurd (false≢true (ap (λ (k : Option (ℕ × ℕ)). is_due_after k lists torn n) (sym is) ∙ due))
grouped-due false most sum o lists torn n is due = is

-- a page list more, that of the group that was due it
pub keeps-list : (old new : BookData) (at : ListPlace) (len : ℕ)
    → new ≡ record old { lists = old.lists ++ record { at = at; len = len } ∷ [] } → IsBookKept old → is_due old ≡ true
    → at.size ≡ length (due_object old) → len ≡ 42 + at.size → len ≤ old.limits.range → KeepsNotes old new
unfolding due_object
keeps-list old new at len is kept due size long short t p notes =
    let l : NotedList = record { at = at; len = len } in
    let group : old.group ≡ Some (p.group, header_sum t) =
    grouped-due p.staged p.group (header_sum t) old.group old.lists old.torn (length (book_clusters old)) notes.noted.group due in
    let full = full-due old.group (p.group, header_sum t) old.lists old.torn (length (book_clusters old)) group due in
    let here : list_object (group_sum old.group) old (due_span old)
    ≡ list_object (header_sum t) old (full_span p.group (length old.lists)) =
    ap (λ (g : Option (ℕ × ℕ)). list_object (group_sum g) old (record {
      from = clusters_listed (group_size g) old.lists;
      count = group_size g;
    })) group
    ∙ ap (λ (f : ℕ). list_object (header_sum t) old (record { from = f; count = p.group })) (listed-times p.group old.lists) in
    let grown : book_clusters new ≡ book_clusters old ++ [] =
    ap (λ (b : BookData). book_clusters b) is ∙ sym (append-nil (book_clusters old)) in
    let firsts : new.firsts ≡ old.firsts = ap (λ (b : BookData). b.firsts) is in
    let lists : new.lists ≡ old.lists ++ l ∷ [] = ap (λ (b : BookData). b.lists) is in
    let last : IsNotedOf (header_sum t) old (full_span p.group (length old.lists)) l =
    record { size = size ∙ ap length here; len = omega (arith, long, size, ap length here) } in
    record {
      begin = ap (λ (b : BookData). b.begin) is ∙ notes.begin;
      noted = record {
        staged = ap (λ (b : BookData). b.staged) is ∙ notes.noted.staged;
        group = ap (λ (b : BookData). b.group) is ∙ notes.noted.group;
        noted = subst (λ (ls : List NotedList). (k : ℕ) → k < length ls
            → IsNotedOf (header_sum t) new (full_span p.group k) (slice_index_or ls k no_noted)) (sym lists)
            (all-more (λ k x. IsNotedOf (header_sum t) new (full_span p.group k) x) old.lists l
            (notes-stay old new kept [] grown firsts t p notes.noted)
            (note-stays old new kept [] grown firsts (header_sum t) p.group (length old.lists) l
            (omega (arith, full, listed-times p.group old.lists)) last));
        short = subst (λ (ls : List NotedList). AllByRecursion (λ (x : NotedList). x.len ≤ p.limits.range) ls) (sym lists)
            (short-more p.limits.range old.lists l notes.noted.short
            (subst (λ (limits : Limits). len ≤ limits.range) notes.limits short));
      };
      limits = ap (λ (b : BookData). b.limits) is ∙ notes.limits;
      columns = ap (λ (f : List ℕ). length f) firsts ∙ notes.columns;
    }
