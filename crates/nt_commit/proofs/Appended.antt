-- The page list that is due, as it is appended.
use Rattle.std.proofs.Common.{◌≡◌, ◌∙◌, ap, sym, refl, ℕ, ◌+◌, ◌-◌, ◌≤◌, Bool, true, false, List, [], ◌++◌, length, drop, replicate}
use Rattle.std.proofs.Common.{Some, None, arith}
use Rattle.std.specs.Prelude.{Result, Ok, Err, OnOk, OnErr, if◌then◌else◌, is_ok, nat_lt, ◌==◌}
use Rattle.std.specs.Result.{is_err}
use Rattle.std.proofs.lemmas.Bool.{false≢true, ltb-false}
use Rattle.std.proofs.lemmas.List.{length-append, length-replicate}
use Rattle.std.proofs.Math.Seq.{drop-append_seam}
use Rattle.nt_container.proofs.Lengths.{blob_key-len}
use Rattle.nt_container.specs.Lengths.{blob_key_len}
use Rattle.nt_container.specs.Spelling.{blob_key}
use Rattle.nt_book.specs.declared.limits.Limits.{Limits}
use Rattle.nt_book.specs.declared.limits.LimitError.TheVariants.{RangeTooLarge, FileTooLarge, TooManyClusters}
use Rattle.nt_book.specs.declared.list.ListPlace.{ListPlace}
use Rattle.nt_book.specs.declared.list.NotedList.{NotedList}
use Rattle.nt_book.specs.Books.{BookData, is_due}
use Rattle.nt_book.specs.Limiting.{limit_error, limit_error_with}
use Rattle.nt_book.proofs.Fitting.{limit_error_with-fits, limit_error_with-nothing}
use Rattle.nt_pagelists.specs.Blobs.{blob, blob_len}
use Rattle.nt_pagelists.specs.Due.{due_len, due_object}
use Rattle.nt_pagelists.specs.Objects.{list_object}
use Rattle.nt_commit.specs.Appending.{due_bytes}
use Rattle.nt_commit.specs.Lists.{noted_list}
use Rattle.nt_commit.proofs.Placing.{due_or_none}

-- where a call has answered
pub on_done : {E P : Type 0} (r : Result (Unit {0}) E) → is_ok r ≡ true → OnOk r P → P
on_done (Ok done) is h = h
on_done (Err e) is h = absurd (false≢true is)

pub on_passed : {E P : Type 0} (r : Result (Unit {0}) E) → false ≡ is_err r → OnOk r P → P
on_passed (Ok done) is h = h
on_passed (Err e) is h = absurd (false≢true is)

pub on_failed : {E P : Type 0} (r : Result (Unit {0}) E) → true ≡ is_err r → OnErr r P → P
on_failed (Ok done) is h = absurd (false≢true (sym is))
on_failed (Err e) is h = h

-- room in a book changes no page list
pub due-room : (b : BookData) (spare : ℕ) → due_bytes (record b { spare = spare }) ≡ due_bytes b
unfolding due_object list_object
due-room b spare = refl

long-room : length {A = ℕ} (replicate blob_key_len 0) ≡ blob_key_len
long-room = length-replicate {A = ℕ} blob_key_len 0

-- how long the list is that is due
pub due-length : (b : BookData) → length (due_bytes b) ≡ due_or_none (is_due b) (due_len b)
due-length b = at (is_due b)
  where
    at : (x : Bool) → length (if x then replicate blob_key_len 0 ++ due_object b else []) ≡ due_or_none x (due_len b)
    at true = length-append (replicate blob_key_len 0) (due_object b) ∙ ap (λ (n : ℕ). n + length (due_object b)) long-room
    at false = refl

-- what is due has bytes
pub due-nothing : (b : BookData) → length (due_bytes b) ≡ 0 → is_due b ≡ false
due-nothing b none = at (is_due b) (sym (due-length b) ∙ none)
  where
    at : (x : Bool) → due_or_none x (due_len b) ≡ 0 → x ≡ false
    at true is = absurd (omega (arith, is))
    at false is = refl

module _ (items object : List ℕ) (is : items ≡ replicate blob_key_len 0 ++ object) where
  pub item-count : length items ≡ blob_len (length object)
  item-count =
      ap (λ (l : List ℕ). length l) is
      ∙ (length-append (replicate blob_key_len 0) object ∙ ap (λ (n : ℕ). n + length object) long-room)

  -- with its key it is the blob
  pub blob-is : (start place : ℕ) (bytes : List ℕ) → bytes ≡ blob start (drop blob_key_len items) → start ≡ place
      → bytes ≡ blob place object
  blob-is start place bytes here at =
      here ∙ (ap (λ (l : List ℕ). blob start (drop blob_key_len l)) is
      ∙ (ap (λ (n : ℕ). blob start (drop n (replicate blob_key_len 0 ++ object))) (sym long-room)
      ∙ (ap (λ (l : List ℕ). blob start l) (drop-append_seam (replicate blob_key_len 0) object)
      ∙ ap (λ (n : ℕ). blob n object) at)))

  -- and what is noted of it
  pub link-noted : (link : ListPlace) (start len place : ℕ) → len ≡ length items → start ≡ place
      → link ≡ record { length = len - blob_key_len; size = len - blob_key_len; place = start + blob_key_len }
      → ◌≡◌ {A = NotedList} (record { at = link; len = len }) (noted_list place object)
  link-noted link start len place long at link_is =
      let n : len ≡ blob_key_len + length object = long ∙ item-count in
      let k : blob_key_len + length object - blob_key_len ≡ length object = omega arith in
      ap (λ (l : ListPlace). record { at = l; len = len }) link_is
      ∙ (ap (λ (m : ℕ). record {
        at = record { length = m - blob_key_len; size = m - blob_key_len; place = start + blob_key_len };
        len = m;
      }) n
      ∙ (ap (λ (m : ℕ). record {
        at = record { length = m; size = m; place = start + blob_key_len };
        len = blob_key_len + length object;
      }) k
      ∙ ap (λ (m : ℕ). record {
        at = record { length = length object; size = length object; place = m + blob_key_len };
        len = blob_key_len + length object;
      }) at))

pub blob-length : (place : ℕ) (object : List ℕ) → length (blob place object) ≡ blob_len (length object)
blob-length place object =
    length-append (blob_key (length object) place) object ∙ ap (λ (n : ℕ). n + length object) (blob_key-len (length object) place)

-- a range that keeps the limits behind a list keeps them behind its end
pub with-behind : (limits : Limits) (end count len list : ℕ) → limit_error_with limits end count len list ≡ None
    → (limit_error limits (end + list) count len ≡ None) × ((list ≤ limits.range) × (end + list ≤ limits.file))
with-behind limits end count len list is =
    at (nat_lt limits.range len) (nat_lt limits.range list) (nat_lt limits.file (end + list + len)) (count == limits.clusters)
    refl refl refl refl is
  where
    at : (a b c d : Bool) → nat_lt limits.range len ≡ a → nat_lt limits.range list ≡ b → nat_lt limits.file (end + list + len) ≡ c
        → count == limits.clusters ≡ d
        → (if a then Some (RangeTooLarge len limits.range) else if b then Some (RangeTooLarge list limits.range) else if c then Some
        (FileTooLarge (end + list + len) limits.file) else if d then Some TooManyClusters else None) ≡ None
        → (limit_error limits (end + list) count len ≡ None) × ((list ≤ limits.range) × (end + list ≤ limits.file))
    at true b c d p q r s e = cc
    at false true c d p q r s e = cc
    at false false true d p q r s e = cc
    at false false false true p q r s e = cc
    at false false false false p q r s e =
        let within = ltb-false limits.file (end + list + len) r in (
          sym (limit_error_with-nothing limits (end + list) count len)
              ∙ limit_error_with-fits limits (end + list) count len 0 false (ltb-false limits.range len p) (omega arith)
              (omega (arith, within)) s,
          (ltb-false limits.range list q, omega (arith, within)),
        )
