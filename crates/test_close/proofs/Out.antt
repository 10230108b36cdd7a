-- What a new book has, and the range that was committed last.
use Rattle.std.proofs.Common.{◌≡◌, ◌∙◌, ℕ, List, [], ◌∷◌, ◌++◌, length, Some, refl, ap, sym, subst, arith}
use Rattle.std.specs.Prelude.{replicate, slice_get}
use Rattle.std.proofs.lemmas.List.{length-append, length-replicate}
use Rattle.std.proofs.lemmas.List.Sums.{fold-append}
use Rattle.std.proofs.lemmas.Option.{slice_get-get_or}
use Rattle.std.proofs.Math.Seq.{get_or-append_seam}
use Rattle.nt_machine.specs.declared.entry.Entry.{Entry}
use Rattle.nt_machine.specs.History.{Cluster, Out, after_entry, ranges_of}
use Rattle.nt_machine.specs.Legal.{IsOut}
use Rattle.nt_book.specs.declared.meta.ClusterMeta.{ClusterMeta}
use Rattle.nt_book.specs.Entries.{committed_entry}

last_of : {X : Type 0} (xs : List X) (x : X) → slice_get (xs ++ x ∷ []) (length xs) ≡ Some x
last_of xs x =
    slice_get-get_or (xs ++ x ∷ []) (length xs) x (omega (arith, length-append xs (x ∷ [])))
    ∙ ap (λ y. Some y) (get_or-append_seam xs x [] x)

pub ranges_after : (h : List (Entry ClusterMeta)) (e : Entry ClusterMeta) → ranges_of (h ++ e ∷ []) ≡ after_entry (ranges_of h) e
ranges_after h e = fold-append after_entry [] h (e ∷ [])

-- the range of a cluster that a book just appended
pub out_behind : (h now : List (Entry ClusterMeta)) (n start context : ℕ) (meta : ClusterMeta)
    → now ≡ h ++ committed_entry n start meta ∷ []
    → n ≡ length (ranges_of h) → meta.context ≡ context → IsOut (ranges_of now) context n
out_behind h now n start context meta is number own =
    subst (λ (l : List (Entry ClusterMeta)). IsOut (ranges_of l) context n) (sym is)
    (subst (λ (l : List (Cluster ClusterMeta)). IsOut l context n) (sym (ranges_after h (committed_entry n start meta))) record {
      cluster = record { context = meta.context; number = n; start = start; len = meta.len; meta = meta; state = Out };
      at = ap (slice_get _) number ∙ last_of (ranges_of h) _;
      own = own;
      out = refl;
    })

-- one number for each of one column
pub one_replicated : (n : ℕ) → n ≡ 1 → length {A = ℕ} (replicate n 0) ≡ 1
one_replicated n one = length-replicate n 0 ∙ one
