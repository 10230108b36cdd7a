-- Locators and links: what is read is spelled so, and what is spelled is read.
use Rattle.std.proofs.Common.{◌≡◌, ℕ, ◌+◌, ◌^◌, false, cond, leb, List, ◌++◌, length, Result, Ok, Err, refl, ap, subst, ◌∙◌, append_assoc}
use Rattle.std.proofs.Common.{arith}
use Rattle.std.specs.Int.{w32, w64, from_le_bytes, to_le_bytes}
use Rattle.std.proofs.lemmas.Bool.{leb-false, lt-leb}
use Rattle.std.proofs.lemmas.List.{length-append}
use Rattle.nt_num.specs.Place.{At}
use Rattle.nt_num.specs.Cursor.{little}
use Rattle.nt_format.specs.declared.fault.LocatorFault.{LocatorFault}
use Rattle.nt_format.specs.declared.fault.LocatorFault.TheVariants.{Short, NotSimple}
use Rattle.nt_format.specs.declared.locator.Locator.{Locator}
use Rattle.nt_format.specs.declared.locator.Link.{Link}
use Rattle.nt_lists.specs.Chaining.{◌>>=◌, refused_as}
use Rattle.nt_format.specs.Reading.{standing, IsBytes, Takes, Spells}
use Rattle.nt_format.specs.Locators.{locator, link, locator_at, link_at, IsSimple, IsLink}
use Rattle.nt_lists.proofs.Chaining.{bind_ok, refused_as_ok, guard_ok}
use Rattle.nt_lists.proofs.Variants.{ok_is}
use Rattle.nt_format.proofs.Steps.{Takes-then}
use Rattle.nt_format.proofs.Numbers.{little_32, little_64, number_again, number_takes}

locator_again : (l : Locator) (place : ℕ) (rest : List ℕ) → IsSimple l → locator_at (standing place (locator l ++ rest))
    ≡ Ok (l, standing (place + length (locator l)) rest)
unfolding locator_at
locator_again l place rest fits =
    let size = number_again 4 (2 ^ 32) (from_le_bytes w32) (to_le_bytes w32) little_32 l.size place (to_le_bytes w64 l.place
    ++ rest) (omega (arith, fits.size)) in
    let simple : leb (2 ^ 31) l.size ≡ false = lt-leb _ _ fits.size in
    let block = number_again 8 (2 ^ 64) (from_le_bytes w64) (to_le_bytes w64) little_64 l.place (place + 4) rest fits.place in
    let end : place + 4 + 8 ≡ place + 12 = omega arith in
    ap (λ (b : List ℕ). locator_at (standing place b)) (append_assoc (to_le_bytes w32 l.size) (to_le_bytes w64 l.place) rest)
    ∙ rw (size, simple, block, end) refl

locator_takes : (here after : At) (l : Locator) → IsBytes here.left → locator_at here ≡ Ok (l, after)
    → Takes here (locator l) after × IsSimple l
unfolding locator_at
locator_takes here after l bytes e =
    let made : ℕ → ℕ × At → Result (Locator × At) LocatorFault = λ size place. Ok (record { size = size; place = place.0 }, place.1) in
    let block : ℕ × At → Result (ℕ × At) LocatorFault =
    λ size. cond (leb (2 ^ 31) size.0) (Err (NotSimple size.0)) (refused_as Short (little w64 size.1)) in
    let from_size : ℕ × At → Result (Locator × At) LocatorFault = λ size. block size >>= made size.0 in
    let size = bind_ok (refused_as Short (little w32 here)) from_size (l, after) e in
    let first = number_takes 4 (2 ^ 32) (from_le_bytes w32) (to_le_bytes w32) little_32 here size.0.1 size.0.0 bytes
    (refused_as_ok Short (little w32 here) size.0 size.1) in
    let place = bind_ok (block size.0) (made size.0.0) (l, after) size.2 in
    let simple = guard_ok (leb (2 ^ 31) size.0.0) (NotSimple size.0.0) (refused_as Short (little w64 size.0.1)) place.0 place.1 in
    let second = number_takes 8 (2 ^ 64) (from_le_bytes w64) (to_le_bytes w64) little_64 size.0.1 place.0.1 place.0.0 first.0.bytes
    (refused_as_ok Short (little w64 size.0.1) place.0 simple.1) in
    let both = Takes-then here size.0.1 place.0.1 (to_le_bytes w32 size.0.0) (to_le_bytes w64 place.0.0) first.0 second.0 in
    let found : Locator × At = (record { size = size.0.0; place = place.0.0 }, place.0.1) in
    subst (λ (p : Locator × At). Takes here (locator p.0) p.1 × IsSimple p.0) (ok_is {E = LocatorFault} found (l, after) place.2)
    (both, record { size = leb-false _ _ simple.0; place = second.1 })

link_again : (l : Link) (place : ℕ) (rest : List ℕ) → IsLink l → link_at (standing place (link l ++ rest))
    ≡ Ok (l, standing (place + length (link l)) rest)
unfolding link_at
link_again l place rest fits =
    let long = number_again 8 (2 ^ 64) (from_le_bytes w64) (to_le_bytes w64) little_64 l.length place (locator l.at ++ rest) fits.length in
    let at = locator_again l.at (place + 8) rest fits.at in
    let end : place + 8 + length (locator l.at) ≡ place + length (link l) =
    omega (arith, length-append (to_le_bytes w64 l.length) (locator l.at)) in
    ap (λ (b : List ℕ). link_at (standing place b)) (append_assoc (to_le_bytes w64 l.length) (locator l.at) rest) ∙ rw (long, at, end) refl

link_takes : (here after : At) (l : Link) → IsBytes here.left → link_at here ≡ Ok (l, after) → Takes here (link l) after × IsLink l
unfolding link_at
link_takes here after l bytes e =
    let made : ℕ → Locator × At → Result (Link × At) LocatorFault = λ long at. Ok (record { length = long; at = at.0 }, at.1) in
    let from_length : ℕ × At → Result (Link × At) LocatorFault = λ long. locator_at long.1 >>= made long.0 in
    let long = bind_ok (refused_as Short (little w64 here)) from_length (l, after) e in
    let first = number_takes 8 (2 ^ 64) (from_le_bytes w64) (to_le_bytes w64) little_64 here long.0.1 long.0.0 bytes
    (refused_as_ok Short (little w64 here) long.0 long.1) in
    let at = bind_ok (locator_at long.0.1) (made long.0.0) (l, after) long.2 in
    let second = locator_takes long.0.1 at.0.1 at.0.0 first.0.bytes at.1 in
    let both = Takes-then here long.0.1 at.0.1 (to_le_bytes w64 long.0.0) (locator at.0.0) first.0 second.0 in
    let found : Link × At = (record { length = long.0.0; at = at.0.0 }, at.0.1) in
    subst (λ (p : Link × At). Takes here (link p.0) p.1 × IsLink p.0) (ok_is {E = LocatorFault} found (l, after) at.2)
    (both, record { length = first.1; at = second.1 })

pub locator_spells : Spells locator_at locator IsSimple
locator_spells = record { reads = locator_again; finds = locator_takes }

pub link_spells : Spells link_at link IsLink
link_spells = record { reads = link_again; finds = link_takes }
