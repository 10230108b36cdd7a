-- A new committer over a file that was begun.
use Rattle.std.proofs.Common.{◌≡◌, ℕ, List, length, refl, sym, ap, ◌∙◌, subst}
use Rattle.std.proofs.Common.{arith}
use Rattle.std.proofs.Common.{replicate, Result}
use Rattle.std.proofs.lemmas.List.{length-replicate}
use Rattle.nt_types.specs.ShapeData.{MemberData}
use Rattle.nt_grammar.specs.Table.{Table}
use Rattle.nt_outside.specs.Disk.{DiskState}
use Rattle.nt_outside.specs.Source.{SourceState}
use Rattle.nt_turn.specs.Pass.{TurnState, first_pass}
use Rattle.nt_book.specs.declared.params.Params.{Params}
use Rattle.nt_book.specs.Books.{BookData}
use Rattle.nt_commit.specs.declared.locked.Birth.{Birth}
use Rattle.nt_commit.specs.Locked.{birth_with}
use Rattle.nt_close.specs.Beginning.{new_book}
use Rattle.nt_dealing.specs.Begun.{IsBornFor}
use Rattle.nt_contexts.specs.Seats.{DiskPass}
use Rattle.nt_contexts.specs.declared.error.RunError.{RunError}
use Rattle.nt_contexts.specs.Contexts.{IsReady, RunsContexts}
use Rattle.nt_contexts.specs.Seating.{IsLettingIn, MayWork}

module _ {D : Type 0} (state : D → DiskState) (fields : List MemberData) (t : Table) (p : Params) (committer : TurnState (Birth D)) where
  -- a new committer over a file that was begun
  pub newly : (first : DiskPass D) (disk : D) (book : BookData) (n : ℕ) → IsReady fields p t book (state disk) n → committer.seats ≡ n
      → committer.birth ≡ birth_with disk book n → first ≡ first_pass committer
      → MayWork committer fields t p n first
  newly first disk book n ready seats born is =
      let columns : committer.birth.columns ≡ length book.firsts = ap (λ (b : Birth D). b.columns) born in
      let contexts : committer.birth.contexts ≡ n = ap (λ (b : Birth D). b.contexts) born in
      let firsts : book.firsts ≡ replicate (length t.columns) 0 = ap (λ (b : BookData). b.firsts) ready.book_is in
      let staged : committer.birth.staged ≡ p.staged =
      ap (λ (b : Birth D). b.staged) born ∙ ap (λ (b : BookData). b.staged) ready.book_is in
      let begins : IsLettingIn committer 0 (first_pass committer) = record {
        of = record {
          of = record {
            turn = refl;
            free = refl;
            birth = refl;
            number = omega (arith, seats, contexts);
            seats = omega (
              arith,
              seats,
              contexts,
            );
          };
          first = refl;
        };
        splits = refl;
        kept = refl;
        unused = refl;
      } in
      record {
        schema = record {
          rules = ready.rules;
          rows = ready.rows;
          columns = sym (columns ∙ (ap (λ (l : List ℕ). length l) firsts ∙ length-replicate (length t.columns) 0));
          staged = staged;
        };
        some = omega (arith, ready.some);
        few = ready.few;
        seated = omega (arith, contexts);
        letting = subst (λ (f : DiskPass D). IsLettingIn committer 0 f) (sym is) begins;
      }

  pub born-for : (disk : D) (book : BookData) (n : ℕ) → IsReady fields p t book (state disk) n
      → committer.birth ≡ birth_with disk book n
      → IsBornFor state committer.birth t p
  born-for disk book n ready born = record {
    limits = ap (λ (b : Birth D). b.limits) born ∙ ap (λ (b : BookData). b.limits) ready.book_is;
    end = ap (λ (b : Birth D). (state b.begun).end) born ∙ ready.end;
    group = ap (λ (b : Birth D). b.group) born ∙ ap (λ (b : BookData). b.group) ready.book_is;
    staged = ap (λ (b : Birth D). b.staged) born ∙ ap (λ (b : BookData). b.staged) ready.book_is;
  }

  pub born-firsts : (disk : D) (book : BookData) (n : ℕ) → IsReady fields p t book (state disk) n
      → committer.birth ≡ birth_with disk book n
      → committer.birth.firsts ≡ replicate (length t.columns) 0
  born-firsts disk book n ready born = ap (λ (b : Birth D). b.firsts) born ∙ ap (λ (b : BookData). b.firsts) ready.book_is

  -- what was begun is the disk and the book that were given
  pub runs-given : (disk : D) (after : DiskState) (book book' : BookData) (n : ℕ) (sources sources' : List SourceState) (answer : Result
      Unit RunError)
      → IsReady fields p t book (state disk) n
      → committer.birth ≡ birth_with disk book n
      → RunsContexts t fields p (state committer.birth.begun) after (new_book t p) book' sources sources' answer
      → RunsContexts t fields p (state disk) after book book' sources sources' answer
  runs-given disk after book book' n sources sources' answer ready born ran =
      subst (λ (b : BookData). RunsContexts t fields p (state disk) after b book' sources sources' answer) (sym ready.book_is)
      (subst (λ (d : D). RunsContexts t fields p (state d) after (new_book t p) book' sources sources' answer) (ap (λ (b : Birth
      D). b.begun) born) ran)
