-- Printing a piece after another.
use Rattle.std.proofs.Common.{◌≡◌, ◌∙◌, ap, sym, ℕ, ◌+◌, List, ◌++◌, take, take-add, drop, Some, Option, append_assoc}
use Rattle.nt_outside.specs.declared.stream.Stream.{Stream}
use Rattle.nt_outside.specs.declared.stream.Stream.TheVariants.{ToOut, ToErr}
use Rattle.nt_outside.specs.World.{World, Turns, prints}

-- two pieces are printed as one
pub prints-append : (stream : Stream) (x y : List ℕ) (w : World) → prints stream y (prints stream x w) ≡ prints stream (x ++ y) w
prints-append ToOut x y w = ap (λ (l : List ℕ). record w { out = l }) (append_assoc w.out x y)
prints-append ToErr x y w = ap (λ (l : List ℕ). record w { err = l }) (append_assoc w.err x y)

-- the front of a text and the next bytes are a longer front of it
pub print_more : (stream : Stream) (o p q : Option World) (bytes piece : List ℕ) (at n : ℕ) → piece ≡ drop at bytes
    → Turns o p (prints stream (take at bytes)) → Turns p q (prints stream (take n piece)) → Turns o q (prints stream (take (at + n) bytes))
print_more stream o p q bytes piece at n rest first second w is =
    let joined : take at bytes ++ take n piece ≡ take (at + n) bytes =
    ap (λ (l : List ℕ). take at bytes ++ take n l) rest ∙ sym (take-add at n bytes) in
    second _ (first w is)
    ∙ ap (λ (v : World). Some v) (prints-append stream (take at bytes) (take n piece) w)
    ∙ ap (λ (l : List ℕ). Some (prints stream l w)) joined
