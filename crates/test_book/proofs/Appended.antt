-- A range that was reserved last, with its cluster or as a staged one, is out.
use Rattle.std.proofs.Common.{◌≡◌, ◌∙◌, refl, ap, ℕ, ◌-◌, List, [], ◌∷◌, ◌++◌, length, Some}
use Rattle.std.specs.Prelude.{slice_get}
use Rattle.std.proofs.lemmas.List.Sums.{fold-append}
use Rattle.nt_machine.specs.declared.entry.Entry.{Entry}
use Rattle.nt_machine.specs.History.{Cluster, Out, after_entry, ranges_of}
use Rattle.nt_machine.specs.Legal.{IsOut}
use Rattle.nt_book.specs.declared.meta.ClusterMeta.{ClusterMeta}
use Rattle.nt_book.specs.Books.{BookData, book_ranges, book_end}
use Rattle.nt_book.specs.Entries.{committed_entry}

pub at_end : (before : List (Cluster ClusterMeta)) (c : Cluster ClusterMeta) → slice_get (before ++ c ∷ []) (length before) ≡ Some c
at_end [] c = refl
at_end (b ∷ bs) c = at_end bs c

pub out_last : (old new : BookData) (n : ℕ) (meta : ClusterMeta) → n ≡ length (book_ranges old)
    → new ≡ record old {
      history = old.history ++ committed_entry n (book_end old) meta ∷ [];
      spare = old.spare - 1;
    } → IsOut (ranges_of new.history) meta.context n
out_last old new n meta number is =
    let e : Entry ClusterMeta = committed_entry n (book_end old) meta in
    let c : Cluster ClusterMeta = record {
      context = meta.context;
      number = n;
      start = book_end old;
      len = meta.len;
      meta = meta;
      state = Out;
    } in
    let grown : ranges_of new.history ≡ ranges_of old.history ++ c ∷ [] =
    ap (λ (b : BookData). ranges_of b.history) is ∙ fold-append after_entry [] old.history (e ∷ []) in
    record {
      cluster = c;
      at = ap (λ (l : List (Cluster ClusterMeta)). slice_get l n) grown
          ∙ (ap (λ (m : ℕ). slice_get (ranges_of old.history ++ c ∷ []) m) number ∙ at_end (ranges_of old.history) c);
      own = refl;
      out = refl;
    }
