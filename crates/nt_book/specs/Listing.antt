-- Page lists that stand between the ranges of a book.
use Rattle.std.specs.Prelude.{◌≡◌, ℕ, ◌+◌, ◌≤◌, Bool, false, ◌==◌, List, [], ◌∷◌, take, drop, Option, Some, None, IfSome}
use Rattle.std.specs.List.{sum_by}
use Rattle.nt_machine.specs.Spans.{Span, AreBehindSpans}
use Rattle.nt_book.specs.declared.list.NotedList.{NotedList}
use Rattle.nt_book.specs.declared.list.Tear.{Tear}

-- the bytes of ranges
abbrev pub spans_len : List Span → ℕ
spans_len spans = sum_by (λ (s : Span). s.len) spans

-- the bytes of page lists, each with its key
abbrev pub lists_bytes : List NotedList → ℕ
lists_bytes lists = sum_by (λ (l : NotedList). l.len) lists

-- what stands past the last one
abbrev pub no_noted : NotedList
no_noted = record { at = record { length = 0; size = 0; place = 0 }; len = 0 }

-- the bytes that a failed append left
abbrev pub torn_bytes : Option Tear → ℕ
torn_bytes None = 0
torn_bytes (Some t) = t.len

-- the group whose page list failed, and the faults that are kept of that
abbrev pub torn_group : Option Tear → Option (ℕ × ℕ)
torn_group None = None
torn_group (Some t) = Some (t.group, t.faults)

-- the most clusters of a group; without groups none
abbrev pub group_size : Option (ℕ × ℕ) → ℕ
group_size None = 0
group_size (Some g) = g.0

-- how many clusters are listed by lists of full groups, each of so many
abbrev pub clusters_listed : ℕ → List NotedList → ℕ
clusters_listed most [] = 0
clusters_listed most (l ∷ ls) = most + clusters_listed most ls

-- each range starts where the one before it ends, the first one here; behind each of the first groups of so many stands its page list
abbrev pub AreBeside : ℕ → ℕ → List NotedList → List Span → Type 0
AreBeside place most [] spans = AreBehindSpans place spans
AreBeside place most (l ∷ ls) spans =
    AreBehindSpans place (take most spans) × AreBeside (place + spans_len (take most spans) + l.len) most ls (drop most spans)

-- a full group of so many clusters lacks its list
abbrev pub is_due_after : Option (ℕ × ℕ) → List NotedList → Option Tear → ℕ → Bool
is_due_after None lists torn clusters = false
is_due_after (Some g) lists (Some t) clusters = false
is_due_after (Some g) lists None clusters = clusters == clusters_listed g.0 lists + g.0

-- so many clusters are those of the groups that have a list, and of one group more at most
abbrev pub AtMostOneUnlisted : Option (ℕ × ℕ) → List NotedList → ℕ → Type 0
AtMostOneUnlisted group lists clusters = IfSome group (λ g. clusters ≤ clusters_listed g.0 lists + g.0)

-- no page list stands between the ranges, nor what is left of one
pub record HasNoLists (lists : List NotedList) (torn : Option Tear) : Type 0 where
  pub none_noted : lists ≡ []
  pub none_torn : torn ≡ None
