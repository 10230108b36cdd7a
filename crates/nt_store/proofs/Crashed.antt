-- What a crash leaves of a file whose disk is back.
use Rattle.std.proofs.Common.{◌≡◌, ◌∙◌, ap, sym, subst, refl, ℕ, List, Option, Some, Result}
use Rattle.nt_types.specs.ShapeData.{MemberData}
use Rattle.nt_outside.specs.declared.stream.Stream.TheVariants.{ToOut}
use Rattle.nt_outside.specs.Held.{Held}
use Rattle.nt_outside.specs.World.{World, creates, keeps_disk, prints}
use Rattle.nt_book.specs.declared.params.Params.{Params}
use Rattle.nt_store.specs.declared.error.StoreError.{StoreError}
use Rattle.nt_store.specs.Orders.{order_line}
use Rattle.nt_store.specs.Texts.{AreTexts}
use Rattle.nt_store.specs.Writing.{FileTold}
use Rattle.nt_store.specs.Crashes.{IsWholeOf, LeavesAllOrNone, CrashTold, EndsAsWhole, CrashesTo}
use Rattle.nt_store.proofs.Crashing.{leaves_as}
use Rattle.nt_store.proofs.Ends.{ComesBack, stored_kept, left_world}
use Rattle.nt_store.proofs.Refused.{none_made}

some_is : (a b : World) → ◌≡◌ {A = Option World} (Some a) (Some b) → a ≡ b
some_is a b e = cc

-- where no disk was made there is nothing to leave
pub none_left : (name schema : List ℕ) (inputs : List (List ℕ)) (p : Params) (old new : Option World) (result : Result Unit StoreError)
    → new ≡ old → CrashTold name schema inputs p old new result
none_left name schema inputs p old new result stays w w' is is' made = absurd (none_made name old new stays w w' is is' made)

module _ (out schema : List ℕ) (inputs : List (List ℕ)) (p : Params) (fields : List MemberData) (texts : List (List ℕ)) (w : World) (are
    : AreTexts w schema inputs fields texts) (world world' : Option World) (held : Option Held) (keeps : ComesBack world world' held) where
  -- what is whole on the disk is so under its name
  whole_back : (h : Held) (u : World) → world ≡ Some u → (bytes : List ℕ) → EndsAsWhole fields p texts (creates out w) world bytes
      → IsWholeOf schema inputs p w (keeps_disk out h u) bytes
  whole_back h u is bytes ends = record {
    fields = fields;
    texts = texts;
    are = are;
    order = ends.order;
    stored = ends.stored;
    printed = ap (λ (v : World). v.out) (some_is u (prints ToOut (order_line ends.order) (creates out w)) (sym is ∙ ends.printed));
  }

  -- the disk that came back told its steps
  pub back_safe : (result : Result Unit StoreError) → FileTold fields p texts (creates out w) world held result
      → CrashesTo fields p texts (creates out w) world held result → (v : World) → world' ≡ Some v
      → LeavesAllOrNone out schema inputs p w v result
  back_safe result told crashes v is =
      let left = left_world out schema inputs p fields texts w are world world' held keeps result told in
      let same : keeps_disk out crashes.0 left.0 ≡ v = some_is _ _ (sym (keeps out crashes.0 left.0 left.1 left.2 crashes.1) ∙ is) in
      subst (λ (u : World). LeavesAllOrNone out schema inputs p w u result) same (record {
        at = record { bytes = crashes.0.image; log = Some crashes.0.log };
        log = crashes.0.log;
        there = stored_kept left.0.files out (record { bytes = crashes.0.image; log = Some crashes.0.log });
        steps = refl;
        leaves = leaves_as _ _ crashes.0.log result (whole_back crashes.0 left.0 left.1) crashes.2;
      })
