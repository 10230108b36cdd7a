-- The page lists of a book, with one entry or list more.
use Rattle.std.proofs.Common.{◌≡◌, ◌∙◌, ap, sym, refl, subst, ℕ, ◌+◌, ◌<◌, ◌≤◌, Bool, true, false, List, [], ◌∷◌, ◌++◌, length, map, take}
use Rattle.std.proofs.Common.{Option, Some, None, arith}
use Rattle.std.specs.Prelude.{IfSome}
use Rattle.std.specs.List.{AllByRecursion}
use Rattle.std.proofs.lemmas.Bool.{false≢true, eqb-true, ne_eqb}
use Rattle.nt_lists.specs.Parts.{Part}
use Rattle.nt_machine.specs.declared.entry.Entry.{Entry}
use Rattle.nt_machine.specs.History.{Cluster}
use Rattle.nt_machine.specs.Legal.{ranges_end}
use Rattle.nt_book.specs.declared.list.NotedList.{NotedList}
use Rattle.nt_book.specs.declared.list.Tear.{Tear}
use Rattle.nt_book.specs.declared.meta.ClusterMeta.{ClusterMeta}
use Rattle.nt_book.specs.Books.{BookData, book_ranges, book_clusters, is_due}
use Rattle.nt_book.specs.Kept.{IsBookKept}
use Rattle.nt_book.specs.Listing.{clusters_listed, group_size, is_due_after}
use Rattle.nt_book.proofs.Beside.{clusters_listed-more}
use Rattle.nt_pagelists.specs.Blobs.{blob, blob_len}
use Rattle.nt_pagelists.specs.Due.{due_len, due_object, due_span, group_sum}
use Rattle.nt_pagelists.specs.Objects.{ClusterSpan, list_object}
use Rattle.nt_pagelists.specs.Staying.{without_fate}
use Rattle.nt_pagelists.proofs.ListsStay.{list-stays}
use Rattle.nt_commit.specs.Lists.{AreBehindGroups, HasListsOf, IsNoted, IsTornList, noted_list, torn_lens}
use Rattle.nt_commit.proofs.Noting.{SameLists, stays-snoc, more-snoc, noted-same, noted-none, noted-snoc}
use Rattle.nt_commit.proofs.Behind.{behind-same, behind-snoc}
use Rattle.nt_commit.proofs.Placing.{torn-facts}
use Rattle.nt_commit.proofs.Unstaged.{clusters-plain, count-plain}

-- all of them are such, and one more
push_all : {A : Type 0} (P : A → Type 0) (xs : List A) (x : A) → AllByRecursion P xs → P x → AllByRecursion P (xs ++ x ∷ [])
push_all P [] x h one = (one, tt)
push_all P (y ∷ xs) x h one = (h.0, push_all P xs x h.1 one)

-- a list doesn't see the room, the lists and the tear of its book
blind : (sum : ℕ) (b : BookData) (spare : ℕ) (ready : Option ℕ) (ls : List NotedList) (t : Option Tear) (s : ClusterSpan)
    → list_object sum (record b { spare = spare; ready = ready; lists = ls; torn = t }) s ≡ list_object sum b s
unfolding list_object
blind sum b spare ready ls t s = refl

-- a book that is due a list isn't torn
pub due-whole : (b : BookData) → is_due b ≡ true → b.torn ≡ None
due-whole b due = at b.group b.torn due
  where
    at : (g : Option (ℕ × ℕ)) (t : Option Tear) → is_due_after g b.lists t (length (book_clusters b)) ≡ true → t ≡ None
    at None t due = absurd (false≢true due)
    at (Some g) None due = refl
    at (Some g) (Some t) due = absurd (false≢true due)

-- and it has groups
pub due-group : (b : BookData) → is_due b ≡ true → (g : ℕ × ℕ) × (b.group ≡ Some g)
due-group b due = at b.group due refl
  where
    at : (o : Option (ℕ × ℕ)) → is_due_after o b.lists b.torn (length (book_clusters b)) ≡ true → b.group ≡ o
        → (g : ℕ × ℕ) × (b.group ≡ Some g)
    at None due is = absurd (false≢true due)
    at (Some g) due is = (g, is)

-- once it is noted none is due
pub noted-once : (b : BookData) (l : NotedList) → IfSome b.group (λ g. 0 < g.0) → is_due b ≡ true
    → is_due (record b { lists = b.lists ++ l ∷ [] }) ≡ false
noted-once b l sized due = at b.group b.torn sized due
  where
    at : (o : Option (ℕ × ℕ)) (t : Option Tear) → IfSome o (λ g. 0 < g.0) → is_due_after o b.lists t (length (book_clusters b)) ≡ true
        → is_due_after o (b.lists ++ l ∷ []) t (length (book_clusters b)) ≡ false
    at None t some due = absurd (false≢true due)
    at (Some g) (Some t) some due = absurd (false≢true due)
    at (Some g) None some due =
        let full = eqb-true (length (book_clusters b)) (clusters_listed g.0 b.lists + g.0) due in
        ne_eqb (length (book_clusters b)) (clusters_listed g.0 (b.lists ++ l ∷ []) + g.0)
        (λ is. omega (arith, is, full, some, clusters_listed-more g.0 b.lists l))

-- the list that is due, of two books that have it
due-stays : (b b' : BookData) → b'.group ≡ b.group → b'.lists ≡ b.lists → SameLists (group_sum b.group) (length (book_clusters b)) b b'
    → clusters_listed (group_size b.group) b.lists + group_size b.group ≤ length (book_clusters b)
    → due_len b' ≡ due_len b
unfolding due_object
due-stays b b' group lists same full =
    ap (λ (g : Option (ℕ × ℕ)). blob_len (length (list_object (group_sum g) b' (record {
      from = clusters_listed (group_size g) b'.lists;
      count = group_size g;
    })))) group
    ∙ (ap (λ (l : List NotedList). blob_len (length (list_object (group_sum b.group) b' (record {
      from = clusters_listed (group_size b.group) l;
      count = group_size b.group;
    })))) lists
    ∙ ap (λ (object : List ℕ). blob_len (length object)) (same (due_span b) full))

-- the list that is due is that behind the listed ones
due-noted : (b : BookData) (l : NotedList) (p : Part) → IsNoted (due_object b) l p
    → IsNoted (list_object (group_sum b.group) b (record {
      from = 0 + clusters_listed (group_size b.group) b.lists;
      count = group_size b.group;
    })) l p
unfolding due_object
due-noted b l p h =
    subst (λ (m : ℕ). IsNoted (list_object (group_sum b.group) b (record { from = m; count = group_size b.group })) l p) (omega arith) h

module _ (b : BookData) (lists : List Part) (torn : List ℕ) (listed : HasListsOf b lists torn) where
  -- the same with other room
  pub listed-room : (spare : ℕ) (ready : Option ℕ) → HasListsOf (record b { spare = spare; ready = ready }) lists torn
  listed-room spare ready =
      let new : BookData = record b { spare = spare; ready = ready } in
      let same : (sum : ℕ) → SameLists sum (length (book_clusters b)) b new = λ sum s le. blind sum b spare ready b.lists b.torn s in
      record {
        noted = noted-same (group_sum b.group) (group_size b.group) (clusters_listed (group_size b.group) b.lists) b new
            (λ s le. blind (group_sum b.group) b spare ready b.lists b.torn s) 0 b.lists lists (omega arith) listed.noted;
        behind = listed.behind;
        short = listed.short;
        torn_is = listed.torn_is;
        torn_short = torn-facts {P = IsTornList b} b.torn (λ t h. record {
          full = h.full;
          short = subst (λ (n : ℕ). t.len ≤ n) (sym (due-stays b new refl refl (same (group_sum b.group)) h.full)) h.short;
        }) listed.torn_short;
      }

  module _ (kept : IsBookKept b) (e : Entry ClusterMeta) (spare : ℕ) where
    abbrev next : BookData
    next = record b { history = b.history ++ e ∷ []; spare = spare }

    pub same-next : b.staged ≡ false → (sum : ℕ) → SameLists sum (length (book_clusters b)) b next
    same-next plain sum = λ s le.
        let few = s.from + s.count in
        list-stays sum b next s kept le (record {
          clusters = ap (λ (cs : List (Cluster ClusterMeta)). map without_fate (take few cs)) (clusters-plain next plain)
              ∙ (stays-snoc few b.history e (omega (arith, le, count-plain b plain))
              ∙ sym (ap (λ (cs : List (Cluster ClusterMeta)). map without_fate (take few cs)) (clusters-plain b plain)));
          firsts = λ column less. refl;
        })

    pub full-next : b.staged ≡ false → clusters_listed (group_size b.group) b.lists + group_size b.group ≤ length (book_clusters b)
        → clusters_listed (group_size b.group) b.lists + group_size b.group ≤ length (book_clusters next)
    full-next plain full = omega (arith, full, more-snoc b.history e, count-plain b plain, count-plain next plain)

    pub due-next-len : b.staged ≡ false → clusters_listed (group_size b.group) b.lists + group_size b.group ≤ length (book_clusters b)
        → due_len next ≡ due_len b
    due-next-len plain full = due-stays b next refl refl (same-next plain (group_sum b.group)) full

    -- the lists stand where they did
    behind-next : AreBehindGroups (group_size b.group) b.begin (book_ranges next) 0 lists
    behind-next = behind-same (group_sum b.group) (group_size b.group) b.begin b (length (book_ranges b)) (book_ranges b)
        (book_ranges next) (λ k le. stays-snoc k b.history e le) 0 b.lists lists (omega (arith, kept.listed, kept.fewer)) listed.noted
        listed.behind

    listed-plain : b.staged ≡ false → HasListsOf next lists torn
    listed-plain plain = record {
      noted = noted-same (group_sum b.group) (group_size b.group) (length (book_clusters b)) b next
          (same-next plain (group_sum b.group)) 0 b.lists lists (omega (arith, kept.listed)) listed.noted;
      behind = behind-next;
      short = listed.short;
      torn_is = listed.torn_is;
      torn_short = torn-facts {P = IsTornList b} b.torn (λ t h. record {
        full = full-next plain h.full;
        short = subst (λ (n : ℕ). t.len ≤ n) (sym (due-next-len plain h.full)) h.short;
      }) listed.torn_short;
    }

    -- a staged book has no lists
    listed-staged : b.staged ≡ true → HasListsOf next lists torn
    listed-staged staged =
        let none = kept.none_between (kept.no_groups staged) in
        record {
          noted = noted-none (group_sum b.group) (group_size b.group) b next 0 b.lists lists none.none_noted listed.noted;
          behind = behind-next;
          short = listed.short;
          torn_is = listed.torn_is;
          torn_short = subst (λ (o : Option Tear). IfSome o (λ t. IsTornList next t)) (sym none.none_torn) tt;
        }

    -- one entry more
    pub listed-snoc : HasListsOf next lists torn
    listed-snoc = at b.staged refl
      where
        at : (s : Bool) → b.staged ≡ s → HasListsOf next lists torn
        at true staged = listed-staged staged
        at false plain = listed-plain plain

  -- one list more: that which was due, appended at a place
  module _ (place : ℕ) (l : NotedList) (is : l ≡ noted_list place (due_object b)) (due : is_due b ≡ true) where
    abbrev with_list : BookData
    with_list = record b { lists = b.lists ++ l ∷ [] }

    pub listed-more : clusters_listed (group_size b.group) b.lists ≤ length (book_clusters b)
        → place ≡ ranges_end b.begin (take (0 + clusters_listed (group_size b.group) b.lists + group_size b.group) (book_ranges b))
        → l.len ≤ b.limits.range
        → HasListsOf with_list (lists ++ record { place = place; bytes = blob place (due_object b) } ∷ []) torn
    listed-more inside here fits =
        let whole = due-whole b due in
        record {
          noted = noted-same (group_sum b.group) (group_size b.group)
              (clusters_listed (group_size b.group) (b.lists ++ l ∷ [])) b with_list
              (λ s le. blind (group_sum b.group) b b.spare b.ready (b.lists ++ l ∷ []) b.torn s) 0
              (b.lists ++ l ∷ []) (lists ++ record { place = place; bytes = blob place (due_object b) } ∷ []) (omega arith)
              (noted-snoc (group_sum b.group) (group_size b.group) b 0 b.lists lists l
              (record { place = place; bytes = blob place (due_object b) }) listed.noted
              (due-noted b l (record { place = place; bytes = blob place (due_object b) }) (record { noted = is; bytes = refl })));
          behind = behind-snoc (group_sum b.group) (group_size b.group) b.begin b (book_ranges b) 0 b.lists lists
              (record { place = place; bytes = blob place (due_object b) }) listed.noted listed.behind here;
          short = push_all (λ (k : NotedList). k.len ≤ b.limits.range) b.lists l listed.short fits;
          torn_is = listed.torn_is;
          torn_short = subst (λ (o : Option Tear). IfSome o (λ t. IsTornList with_list t)) (sym whole) tt;
        }

  -- and one that failed, of which no more is left than its blob has
  pub listed-torn : (t : Tear) → b.torn ≡ None
      → clusters_listed (group_size b.group) b.lists + group_size b.group ≤ length (book_clusters b) → t.len ≤ due_len b
      → HasListsOf (record b { torn = Some t }) lists (torn ++ t.len ∷ [])
  listed-torn t none full short =
      let new : BookData = record b { torn = Some t } in
      let same : (sum : ℕ) → SameLists sum (length (book_clusters b)) b new = λ sum s le. blind sum b b.spare b.ready b.lists (Some t) s in
      record {
        noted = noted-same (group_sum b.group) (group_size b.group) (clusters_listed (group_size b.group) b.lists) b new
            (λ s le. blind (group_sum b.group) b b.spare b.ready b.lists (Some t) s) 0 b.lists lists (omega arith) listed.noted;
        behind = listed.behind;
        short = listed.short;
        torn_is = ap (λ (l : List ℕ). l ++ t.len ∷ []) (listed.torn_is ∙ ap torn_lens none);
        torn_short = record {
          full = full;
          short = subst (λ (n : ℕ). t.len ≤ n) (sym (due-stays b new refl refl (same (group_sum b.group)) full)) short;
        };
      }
