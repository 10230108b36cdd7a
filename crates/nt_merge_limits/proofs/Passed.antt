-- The limits that a file passes where it is begun, where a cluster is appended and where it is closed are limits of the whole.
use Rattle.std.proofs.Common.{◌≡◌, ◌∙◌, ap, sym, subst, refl, ℕ, zero, suc, ◌+◌, ◌*◌, ◌<◌, ◌≤◌, ◌==◌, Bool, true, false, cond, List, []}
use Rattle.std.proofs.Common.{◌∷◌, ◌++◌, length, take, drop, None, Some, append_assoc, arith}
use Rattle.std.specs.Prelude.{Contains, nat_lt}
use Rattle.std.proofs.lemmas.Bool.{ltb-true, eqb-true}
use Rattle.std.proofs.lemmas.Option.{none-some}
use Rattle.std.proofs.lemmas.List.{length-append, length-drop, take-append-le, drop-append-le}
use Rattle.std.proofs.lemmas.List.Elements.{Contains-push, Contains-append_left}
use Rattle.nt_lists.proofs.Variants.{some_is}
use Rattle.nt_grammar.specs.Table.{Table}
use Rattle.nt_book.specs.declared.limits.LimitError.{LimitError}
use Rattle.nt_book.specs.declared.limits.LimitError.TheVariants as limit
use Rattle.nt_book.specs.declared.limits.Limits.{Limits}
use Rattle.nt_book.specs.declared.meta.ClusterMeta.{ClusterMeta}
use Rattle.nt_book.specs.declared.params.Params.{Params}
use Rattle.nt_book.specs.Books.{BookData, book_ranges, book_end, is_due}
use Rattle.nt_book.specs.Limiting.{limit_error_with}
use Rattle.nt_pagelists.specs.Blobs.{blob_len}
use Rattle.nt_commit.specs.Appending.{due_bytes}
use Rattle.nt_layout.specs.Headers.{header_object, clusters_place}
use Rattle.nt_close.specs.Passing.{first_passed, passed_by_begin}
use Rattle.nt_dealing.specs.Lengths.{page_list_len, group_count, whole_len}
use Rattle.nt_merge_limits.specs.Limits.{kept_metas, IsMergeBlob, of_header, of_cluster, of_list, MergeOver}
use Rattle.nt_merge_limits.specs.Limits.{range_passed, file_passed, too_many, MergeFits, MergeOverBy, IsBookBeside}
use Rattle.nt_merge_limits.proofs.Lists.{times-suc, groups-enough}
use Rattle.nt_merge_limits.proofs.Fronts.{front-within, lens, counts, all-flat, some-group, due-is, due-none, next-within}

over-is : (t : Table) (p : Params) (metas : List ClusterMeta) (made error : LimitError) → MergeOverBy t p metas made
    → Some made ≡ Some error → MergeOverBy t p metas error
over-is t p metas made error over same = subst (MergeOverBy t p metas) (some_is made error same) over

-- ---- blobs in a row, and the end behind them

pub passed-over : (t : Table) (p : Params) (metas : List ClusterMeta) (lens : List ℕ) (end : ℕ) (error : LimitError)
    → ((len : ℕ) → Contains lens len → IsMergeBlob t p metas len) → end ≤ whole_len t p.group metas
    → first_passed p.limits lens end ≡ Some error → MergeOverBy t p metas error
passed-over t p metas [] end error blobs within = by (nat_lt p.limits.file end) refl
  where
    by : (b : Bool) → nat_lt p.limits.file end ≡ b → cond b (Some (limit.FileTooLarge end p.limits.file)) None ≡ Some error
        → MergeOverBy t p metas error
    by true above is =
        over-is t p metas (limit.FileTooLarge end p.limits.file) error (file_passed within refl (ltb-true _ _ above)) is
    by false above is = absurd (none-some error is)
passed-over t p metas (n ∷ ns) end error blobs within =
    by (nat_lt p.limits.range n) refl
    (passed-over t p metas ns end error (λ len (k, less, at). blobs len (suc k, omega (arith, less), at)) within)
  where
    by : (b : Bool) → nat_lt p.limits.range n ≡ b → (first_passed p.limits ns end ≡ Some error → MergeOverBy t p metas error)
        → cond b (Some (limit.RangeTooLarge n p.limits.range)) (first_passed p.limits ns end) ≡ Some error → MergeOverBy t p metas error
    by true above rest is =
        over-is t p metas (limit.RangeTooLarge n p.limits.range) error
        (range_passed (blobs n (0, omega arith, refl)) refl (ltb-true _ _ above)) is
    by false above rest is = rest is

-- ---- where it is begun

pub begun-over : (t : Table) (p : Params) (metas : List ClusterMeta) (error : LimitError) → 0 < p.group
    → passed_by_begin p.limits t ≡ Some error → MergeOverBy t p metas error
begun-over t p metas error some is =
    passed-over t p metas (blob_len (length (header_object t)) ∷ []) (clusters_place t) error
    (λ len among. of_header (one (blob_len (length (header_object t))) len among))
    (omega (arith, front-within t p.group metas [] some tt)) is
  where
    one : (n len : ℕ) → Contains (n ∷ []) len → len ≡ n
    one n len (zero, less, at) = sym at
    one n len (suc k, less, at) = absurd (omega (arith, less))

-- ---- where a cluster is appended

-- a file of more clusters is no shorter
abbrev pub Grows : Type 0
Grows =
    (t : Table) (most : ℕ) (metas more : List ClusterMeta) → 0 < most → whole_len t most metas ≤ whole_len t most (metas ++ more)

module _ (grows : Grows) (t : Table) (p : Params) (book : BookData) (is : IsBookBeside t p book) (meta : ClusterMeta)
    (more : List ClusterMeta) where
  abbrev front : List ClusterMeta
  front = kept_metas book

  abbrev all : List ClusterMeta
  all = front ++ meta ∷ more

  abbrev list : ℕ
  list = length (due_bytes book)

  all-is : (front ++ meta ∷ []) ++ more ≡ all
  all-is = append_assoc front (meta ∷ []) more

  -- the page list that is due is that of a group of the whole
  due-blob : is_due book ≡ true → IsMergeBlob t p all list
  due-blob due =
      let d = due-is t p book is due in
      let k = length (lens t p book is) in
      let next : suc k * p.group ≤ length all = omega (arith, d.0, times-suc k p.group, length-append front (meta ∷ more)) in
      let low : k < group_count p.group (length all) =
      omega (arith, groups-enough p.group (suc k) (length all) (some-group t p book is) next) in
      of_list k low
      (d.1
      ∙ ap page_list_len (sym (ap (λ (l : List ClusterMeta). take p.group l) (drop-append-le (k * p.group) front (meta ∷ more)
      (omega (arith, d.0)))
      ∙ take-append-le p.group (drop (k * p.group) front) (meta ∷ more) (omega (arith, d.0, length-drop (k * p.group) front)))))

  list-over : p.limits.range < list → IsMergeBlob t p all list
  list-over above = by (is_due book) refl
    where
      by : (b : Bool) → is_due book ≡ b → IsMergeBlob t p all list
      by true due = due-blob due
      by false due = absurd (omega (arith, above, due-none t p book is due))

  end-over : book_end book + list + meta.len ≤ whole_len t p.group all
  end-over =
      omega (
        arith,
        next-within t p book is meta,
        grows t p.group (front ++ meta ∷ []) more (some-group t p book is),
        ap (λ (l : List ClusterMeta). whole_len t p.group l) all-is,
      )

  among : Contains all meta
  among =
      subst (λ (l : List ClusterMeta). Contains l meta) all-is
      (Contains-append_left (front ++ meta ∷ []) more meta (Contains-push front meta))

  pub appended-over : (error : LimitError)
      → limit_error_with book.limits (book_end book) (length (book_ranges book)) meta.len list ≡ Some error
      → MergeOverBy t p all error
  appended-over error e =
      by (nat_lt p.limits.range meta.len) (nat_lt p.limits.range list) (nat_lt p.limits.file (book_end book + list + meta.len))
      (length (book_ranges book) == p.limits.clusters) refl refl refl refl
      (ap (λ (l : Limits). limit_error_with l (book_end book) (length (book_ranges book)) meta.len list) (sym is.limits) ∙ e)
    where
      by : (a b c d : Bool) → nat_lt p.limits.range meta.len ≡ a → nat_lt p.limits.range list ≡ b
          → nat_lt p.limits.file (book_end book + list + meta.len) ≡ c → (length (book_ranges book) == p.limits.clusters) ≡ d
          → cond a (Some (limit.RangeTooLarge meta.len p.limits.range))
          (cond b (Some (limit.RangeTooLarge list p.limits.range))
          (cond c (Some (limit.FileTooLarge (book_end book + list + meta.len) p.limits.file))
          (cond d (Some limit.TooManyClusters) None))) ≡ Some error
          → MergeOverBy t p all error
      by true b c d above e1 e2 e3 same =
          over-is t p all (limit.RangeTooLarge meta.len p.limits.range) error
          (range_passed (of_cluster meta among refl) refl (ltb-true _ _ above)) same
      by false true c d e0 above e2 e3 same =
          over-is t p all (limit.RangeTooLarge list p.limits.range) error
          (range_passed (list-over (ltb-true _ _ above)) refl (ltb-true _ _ above)) same
      by false false true d e0 e1 above e3 same =
          over-is t p all (limit.FileTooLarge (book_end book + list + meta.len) p.limits.file) error
          (file_passed end-over refl (ltb-true _ _ above)) same
      by false false false true e0 e1 e2 full same =
          over-is t p all limit.TooManyClusters error
          (too_many refl refl
          (omega (arith, eqb-true _ _ full, counts t p book is, ap length (all-flat t p book is), length-append front (meta ∷ more)))) same
      by false false false false e0 e1 e2 e3 same = absurd (none-some error same)

-- ---- a file that fits

pub none-over : (t : Table) (p : Params) (metas : List ClusterMeta) (reached most : ℕ) → MergeFits t p metas
    → MergeOver t p metas reached most → ⊥
none-over t p metas reached most fits (range_passed blob same above) = omega (arith, fits.blobs reached blob, same, above)
none-over t p metas reached most fits (file_passed within same above) = omega (arith, fits.file, within, same, above)
none-over t p metas reached most fits (too_many same is above) = omega (arith, fits.few, same, above)
