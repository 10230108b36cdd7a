-- Texts that are written to room behind what is written.
use Rattle.std.proofs.Common.{◌≡◌, ℕ, ◌+◌, ◌≤◌, Bool, List, [], ◌∷◌, ◌++◌, ltb, length, map, take, drop, sym, ap, ◌∙◌, arith}
use Rattle.std.proofs.Common.{append_assoc, append-nil}
use Rattle.std.proofs.lemmas.List.{drop_all, take-take, take_all, take_at, take-append-le, length-take, length-take-le, length-append}
use Rattle.nt_event.specs.Json.{line_of}
use Rattle.nt_trees.specs.Integers.{integer_of}
use Rattle.nt_print.specs.Integers.{integer_trees, integers_text}
use Rattle.nt_print.specs.Marks.{end_of}
use Rattle.nt_print.proofs.Parts.{line-ended, take-behind}

-- what was written before stays
pub kept-placed : (at end : ℕ) (old new more : List ℕ) → at ≤ length old → take end new ≡ take at old ++ more → take at new ≡ take at old
kept-placed at end old new more within is =
    let front : length (take at old) ≡ at = length-take-le at old within in
    let enough : at ≤ end =
    omega (arith, ap length is, length-take end new, length-append (take at old) more, front) in
    sym (take-take at end new enough) ∙ ap (take at) is ∙ take_at (take at old) more at front

-- what is written ends behind what was there
pub end-placed : (at end : ℕ) (old new more : List ℕ) → at ≤ length old → take end new ≡ take at old ++ more → at ≤ end
end-placed at end old new more within is =
    omega (arith, ap length is, length-take end new, length-append (take at old) more, length-take-le at old within)

-- and what stays below what stays
pub kept-below : (at end : ℕ) (old new : List ℕ) → at ≤ end → take end new ≡ take end old → take at new ≡ take at old
kept-below at end old new le is = sym (take-take at end new le) ∙ ap (take at) is ∙ take-take at end old le

-- a mark, integers, and what stands behind the last
pub list-placed : (at a b end mark bits : ℕ) (signed : Bool) (ns old one two new : List ℕ) (later : Bool) → later ≡ ltb 0 (length ns)
    → take a one ≡ take at old ++ mark ∷ [] → take b two ≡ take a one ++ integers_text 91 (map (integer_of bits signed) ns)
    → take end new ≡ take b two ++ end_of later → take end new ≡ take at old ++ mark ∷ line_of (integer_trees bits signed ns)
list-placed at a b end mark bits signed ns old one two new later is first items ended =
    let o = take at old in
    let text = integers_text 91 (map (integer_of bits signed) ns) in
    ended ∙ ap (λ (l : List ℕ). l ++ end_of later) (items ∙ ap (λ (l : List ℕ). l ++ text) first)
    ∙ append_assoc (o ++ mark ∷ []) text (end_of later)
    ∙ append_assoc o (mark ∷ []) (text ++ end_of later)
    ∙ ap (λ (l : List ℕ). o ++ mark ∷ l) (line-ended bits signed ns later is)

-- a part of the room that is written to
pub part-placed : (at count : ℕ) (old part rest text : List ℕ) → at ≤ length old → count ≤ length part → take count part ≡ text
    → take (at + count) (take at old ++ (part ++ rest)) ≡ take at old ++ text
part-placed at count old part rest text within few is =
    let front : length (take at old) ≡ at = length-take-le at old within in
    let place : at + count ≡ length (take at old) + count = omega (arith, front) in
    ap (λ (n : ℕ). take n (take at old ++ (part ++ rest))) place
    ∙ take-behind (take at old) (part ++ rest) count ∙ ap (λ (l : List ℕ). take at old ++ l) (take-append-le count part rest few ∙ is)

-- a whole list that was lent is what was written to it
pub written-back : (len : ℕ) (old room : List ℕ) → length old ≡ len → length room ≡ length old
    → take len (room ++ drop (length room) old) ≡ room
written-back len old room size same =
    ap (λ (l : List ℕ). take len (room ++ l)) (drop_all (length room) old (omega (arith, same)))
    ∙ ap (take len) (append-nil room) ∙ take_all len room (omega (arith, size, same))

-- what was there stays where it is cut behind that, and more is appended
pub kept-cut : (from at : ℕ) (old room cut new : List ℕ) → from ≤ at → at ≤ length room → cut ≡ take at room → take (length cut) new ≡ cut
    → take from room ≡ take from old → take from new ≡ take from old
kept-cut from at old room cut new low within is kept same =
    let count : at ≡ length cut = sym (ap length is ∙ length-take-le at room within) in
    sym (take-take from at new low) ∙ ap (take from) (ap (λ (n : ℕ). take n new) count ∙ kept ∙ is)
    ∙ take-take from at room low ∙ same
