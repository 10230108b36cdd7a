-- Prints on out that follow each other, and what is left to print behind them.
use Rattle.std.proofs.Common.{◌≡◌, ◌∙◌, ap, sym, refl, ℕ, List, [], ◌++◌, take, drop, Option, Some, append_assoc}
use Rattle.std.proofs.lemmas.List.{append-nil, take-append-drop}
use Rattle.nt_outside.specs.declared.stream.Stream.TheVariants.{ToOut}
use Rattle.nt_outside.specs.World.{World, Turns, PrintsFront, prints}
use Rattle.nt_show.specs.Gathering.{PrintsSome, GathersPart}
use Rattle.nt_show.specs.Shown.{PrintsFrontOf}

pub prints-nothing : (w : World) → prints ToOut [] w ≡ w
prints-nothing w = ap (λ (l : List ℕ). record w { out = l }) (append-nil w.out)

pub prints-prints : (a b : List ℕ) (w : World) → prints ToOut b (prints ToOut a w) ≡ prints ToOut (a ++ b) w
prints-prints a b w = ap (λ (l : List ℕ). record w { out = l }) (append_assoc w.out a b)

-- where nothing happened, nothing is gathered
pub gathers_nothing : (world : Option World) (waiting : List ℕ) → PrintsSome [] world waiting world waiting
gathers_nothing world waiting w is = ([], is ∙ ap (λ (v : World). Some v) (sym (prints-nothing w)), append-nil waiting)

-- a text that was put behind what waits
pub gathers_pushed : (text : List ℕ) (world new : Option World) (waiting left : List ℕ) → new ≡ world → left ≡ waiting ++ text
    → PrintsSome text world waiting new left
gathers_pushed text world new waiting left same is w told = ([], same ∙ told ∙ ap (λ (v : World). Some v) (sym (prints-nothing w)), sym is)

-- and then all that waited was printed, or nothing of it
pub pushed_then : (text : List ℕ) (old new : Option World) (waiting one left : List ℕ) → one ≡ waiting ++ text
    → PrintsSome [] old one new left
    → PrintsSome text old waiting new left
pushed_then text old new waiting one left is then_printed w told =
    let two = then_printed w told in
    (two.0, two.1, sym is ∙ sym (append-nil one) ∙ two.2)

-- or a front of it was
pub pushed_in_part : (text : List ℕ) (old new : Option World) (waiting one : List ℕ) → one ≡ waiting ++ text → GathersPart [] old one new
    → GathersPart text old waiting new
pushed_in_part text old new waiting one is then_printed w told =
    let two = then_printed w told in
    (two.0, two.1, two.2, sym is ∙ sym (append-nil one) ∙ two.3)

-- one after the other
pub gathers_then : (a b : List ℕ) (old mid new : Option World) (l m n : List ℕ) → PrintsSome a old l mid m → PrintsSome b mid m new n
    → PrintsSome (a ++ b) old l new n
gathers_then a b old mid new l m n first second w is =
    let one = first w is in
    let two = second (prints ToOut one.0 w) one.1 in (
      one.0 ++ two.0,
      two.1 ∙ ap (λ (v : World). Some v) (prints-prints one.0 two.0 w),
      sym (append_assoc l a b) ∙ ap (λ (x : List ℕ). x ++ b) one.2 ∙ append_assoc one.0 m b ∙ ap (λ (x : List ℕ). one.0 ++ x) two.2
          ∙ sym (append_assoc one.0 two.0 n),
    )

-- what was gathered is in part what was
pub gathers_part : (a : List ℕ) (old new : Option World) (l m : List ℕ) → PrintsSome a old l new m → GathersPart a old l new
gathers_part a old new l m all w is =
    let one = all w is in
    (one.0, m, one.1, one.2)

-- and in part more
pub part_more : (a b : List ℕ) (old new : Option World) (l : List ℕ) → GathersPart a old l new → GathersPart (a ++ b) old l new
part_more a b old new l part w is =
    let one = part w is in
    (one.0, one.1 ++ b, one.2, sym (append_assoc l a b) ∙ ap (λ (x : List ℕ). x ++ b) one.3 ∙ append_assoc one.0 one.1 b)

-- part of a text behind another
pub part_then : (a b : List ℕ) (old mid new : Option World) (l m : List ℕ) → PrintsSome a old l mid m → GathersPart b mid m new
    → GathersPart (a ++ b) old l new
part_then a b old mid new l m first second w is =
    let one = first w is in
    let two = second (prints ToOut one.0 w) one.1 in (
      one.0 ++ two.0,
      two.1,
      two.2 ∙ ap (λ (v : World). Some v) (prints-prints one.0 two.0 w),
      sym (append_assoc l a b) ∙ ap (λ (x : List ℕ). x ++ b) one.2 ∙ append_assoc one.0 m b ∙ ap (λ (x : List ℕ). one.0 ++ x) two.3
          ∙ sym (append_assoc one.0 two.0 two.1),
    )

-- what waits was printed
pub waiting_printed : (text : List ℕ) (old mid new : Option World) (l left : List ℕ) → PrintsSome text old l mid left
    → Turns mid new (prints ToOut left) → Turns old new (prints ToOut (l ++ text))
waiting_printed text old mid new l left first turns w is =
    let one = first w is in
    turns (prints ToOut one.0 w) one.1
    ∙ ap (λ (v : World). Some v) (prints-prints one.0 left w ∙ ap (λ (x : List ℕ). prints ToOut x w) (sym one.2))

-- so nothing is left
pub gathers_printed : (text : List ℕ) (old mid new : Option World) (l left : List ℕ) → PrintsSome text old l mid left
    → Turns mid new (prints ToOut left) → PrintsSome text old l new []
gathers_printed text old mid new l left first turns w is =
    (l ++ text, waiting_printed text old mid new l left first turns w is, sym (append-nil (l ++ text)))

-- or a front of it was
pub part_printed : (text : List ℕ) (old mid new : Option World) (l left : List ℕ) → PrintsSome text old l mid left
    → PrintsFront ToOut left mid new → GathersPart text old l new
part_printed text old mid new l left first front w is =
    let one = first w is in
    let some = front (prints ToOut one.0 w) one.1 in (
      one.0 ++ take some.0 left,
      drop some.0 left,
      some.2 ∙ ap (λ (v : World). Some v) (prints-prints one.0 (take some.0 left) w),
      one.2 ∙ ap (λ (x : List ℕ). one.0 ++ x) (sym (take-append-drop some.0 left))
          ∙ sym (append_assoc one.0 (take some.0 left) (drop some.0 left)),
    )

-- the front of a text, where nothing waited before
pub part_is_front : (text : List ℕ) (old new : Option World) (w : World) → old ≡ Some w → GathersPart text old [] new
    → PrintsFrontOf text w new
part_is_front text old new w is part =
    let one = part w is in
    (one.0, one.1, one.2, one.3)

-- no front of a text
pub no_front : (text : List ℕ) (w : World) (new : Option World) → new ≡ Some w → PrintsFrontOf text w new
no_front text w new same = ([], text, same ∙ ap (λ (v : World). Some v) (sym (prints-nothing w)), refl)
