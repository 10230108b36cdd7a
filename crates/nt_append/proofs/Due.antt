-- A book and the page list that it is due, if it is due one.
use Rattle.std.proofs.Common.{◌≡◌, ◌∙◌, ap, sym, refl, subst, ℕ, ◌+◌, ◌<◌, Bool, true, false, List, [], ◌∷◌, ◌++◌, length, replicate, arith}
use Rattle.std.specs.Prelude.{IfSome, if◌then◌else◌}
use Rattle.std.specs.List.{AllByRecursion}
use Rattle.std.proofs.lemmas.List.Sums.{sum_by_push}
use Rattle.nt_container.specs.Lengths.{blob_key_len}
use Rattle.nt_book.specs.declared.list.NotedList.{NotedList}
use Rattle.nt_book.specs.Books.{BookData, IsUngrouped, book_end, is_due}
use Rattle.nt_book.proofs.Ungrouped.{due-ungrouped}
use Rattle.nt_pagelists.specs.Blobs.{blob}
use Rattle.nt_pagelists.specs.Due.{due_len, due_object}
use Rattle.nt_pagelists.specs.Objects.{list_object}
use Rattle.nt_commit.specs.Appending.{due_bytes}
use Rattle.nt_commit.specs.Lists.{noted_list}
use Rattle.nt_commit.proofs.Appended.{due-length}
use Rattle.nt_commit.proofs.Listed.{noted-once}
use Rattle.nt_commit.proofs.Placing.{due_or_none}
use Rattle.nt_append.specs.Appending.{due_blobs, lists_with_due, with_due_list}

abbrev pub due_note : BookData → NotedList
due_note b = noted_list (book_end b) (due_object b)

-- one is due
module _ (b : BookData) (due : is_due b ≡ true) where
  pub bytes-due : due_bytes b ≡ replicate blob_key_len 0 ++ due_object b
  bytes-due = ap (λ (x : Bool). if x then replicate blob_key_len 0 ++ due_object b else []) due

  pub blobs-due : due_blobs b ≡ blob (book_end b) (due_object b) ∷ []
  blobs-due = ap (λ (x : Bool). if x then blob (book_end b) (due_object b) ∷ [] else []) due

  pub lists-due : lists_with_due b ≡ b.lists ++ due_note b ∷ []
  lists-due = ap (λ (x : Bool). if x then b.lists ++ due_note b ∷ [] else b.lists) due

-- none is due
module _ (b : BookData) (due : is_due b ≡ false) where
  pub blobs-none : due_blobs b ≡ []
  blobs-none = ap (λ (x : Bool). if x then blob (book_end b) (due_object b) ∷ [] else []) due

  pub lists-none : lists_with_due b ≡ b.lists
  lists-none = ap (λ (x : Bool). if x then b.lists ++ due_note b ∷ [] else b.lists) due

-- room in a book changes none of it
pub blobs-room : (b : BookData) (spare : ℕ) → due_blobs (record b { spare = spare }) ≡ due_blobs b
unfolding due_object list_object
blobs-room b spare = refl

pub lists-room : (b : BookData) (spare : ℕ) → lists_with_due (record b { spare = spare }) ≡ lists_with_due b
unfolding due_object list_object
lists-room b spare = refl

-- where the book ends with it
pub end-with : (b : BookData) → book_end (with_due_list b) ≡ book_end b + length (due_bytes b)
end-with b = at (is_due b) refl
  where
    at : (x : Bool) → is_due b ≡ x → book_end (with_due_list b) ≡ book_end b + length (due_bytes b)
    at true due =
        omega (
          arith,
          ap (λ (ls : List NotedList). book_end (record b { lists = ls })) (lists-due b due),
          sum_by_push (λ (k : NotedList). k.len) b.lists (due_note b),
          due-length b,
          ap (λ (x : Bool). due_or_none x (due_len b)) due,
        )
    at false due =
        omega (
          arith,
          ap (λ (ls : List NotedList). book_end (record b { lists = ls })) (lists-none b due),
          due-length b,
          ap (λ (x : Bool). due_or_none x (due_len b)) due,
        )

-- and then none is due
pub due-once : (b : BookData) → IfSome b.group (λ g. 0 < g.0) → is_due (with_due_list b) ≡ false
due-once b sized = at (is_due b) refl
  where
    at : (x : Bool) → is_due b ≡ x → is_due (with_due_list b) ≡ false
    at true due =
        ap (λ (ls : List NotedList). is_due (record b { lists = ls })) (lists-due b due) ∙ noted-once b (due_note b) sized due
    at false due = ap (λ (ls : List NotedList). is_due (record b { lists = ls })) (lists-none b due) ∙ due

-- a book without groups is due none
pub bytes-ungrouped : (b : BookData) → IsUngrouped b → length (due_bytes b) ≡ 0
bytes-ungrouped b bare =
    due-length b ∙ ap (λ (x : Bool). due_or_none x (due_len b)) (due-ungrouped b bare)

pub blobs-ungrouped : (b : BookData) → IsUngrouped b → due_blobs b ≡ []
blobs-ungrouped b bare = blobs-none b (due-ungrouped b bare)

-- ---- what is said of each list that is noted

pub due-long : (b : BookData) → is_due b ≡ true → length (due_bytes b) ≡ (due_note b).len
due-long b due = due-length b ∙ ap (λ (x : Bool). due_or_none x (due_len b)) due

all-one : (P : NotedList → Type 0) (ls : List NotedList) (l : NotedList) → AllByRecursion P ls → P l → AllByRecursion P (ls ++ l ∷ [])
all-one P [] l all one = (one, tt)
all-one P (k ∷ ls) l all one = (all.0, all-one P ls l all.1 one)

pub all-with-due : (b : BookData) (P : NotedList → Type 0) → AllByRecursion P b.lists → (is_due b ≡ true → P (due_note b))
    → AllByRecursion P (lists_with_due b)
all-with-due b P all one = at (is_due b) refl
  where
    at : (x : Bool) → is_due b ≡ x → AllByRecursion P (lists_with_due b)
    at true due =
        subst (λ (ls : List NotedList). AllByRecursion P ls) (sym (lists-due b due))
        (all-one P b.lists (due_note b) all (one due))
    at false due = subst (λ (ls : List NotedList). AllByRecursion P ls) (sym (lists-none b due)) all
