-- Values without parts that are added.
use Rattle.std.proofs.Common.{◌≡◌, ℕ, ◌+◌, ◌-◌, ◌≤◌, Bool, true, ℤ, List, [], ◌∷◌, length, map}
use Rattle.std.proofs.Common.{refl, ap, arith, subst}
use Rattle.hex.specs.Hex.{IsBytes}
use Rattle.json.specs.Json as json
use Rattle.serde_json.specs.Written.{compact_text}
use Rattle.nt_types.specs.TreeData.{TreeData, flag, num}
use Rattle.nt_types.specs.TreeData as trees
use Rattle.nt_types.specs.Fits.{is_int}
use Rattle.nt_event.specs.Json.{data_of, InWord}
use Rattle.nt_event.specs.Standing.{StandsFrom, ValueStands}
use Rattle.nt_event.proofs.Texts.{reads-flag, num-stands}
use Rattle.nt_column.specs.Bits.{bit_of}
use Rattle.nt_column.specs.Column.{Buffer}
use Rattle.nt_column.specs.Elements.{Element, plain}
use Rattle.nt_plans.specs.Plan.{bool, number, text}
use Rattle.nt_trees.specs.Columns.{Cols, last_end, add_to}
use Rattle.nt_trees.specs.Integers.{twos_complement}
use Rattle.nt_trees.specs.Put.{put_tree}
use Rattle.nt_trees.specs.Views.{cols_of}
use Rattle.nt_trees.proofs.Leaves.{length-plain}
use Rattle.nt_shred.specs.Steps.{Ready, GainsInRoom}
use Rattle.nt_shred.specs.Places.{AddsUpTo}
use Rattle.nt_shred.specs.Walk.{CanPut, Puts}
use Rattle.nt_shred.proofs.LineGrowth.{adds, few-more}

-- one element more is no more than the bytes of a value
pub one-more : (k : ℕ) (e : Element) (n : ℕ) (old new : List Buffer) → 1 ≤ n → GainsInRoom (add_to k (e ∷ [])) old new → AddsUpTo n old new
one-more k e n old new some g = few-more k (e ∷ []) 0 n old old new g (λ j. omega arith) (omega (arith, some))

pub flag-put : (k : ℕ) (b : Bool) (n : ℕ) (line : List ℕ) (at end : ℕ) (old new : List Buffer) → n ≡ bit_of b
    → StandsFrom (compact_text (data_of (flag b))) line at end → GainsInRoom (add_to k (plain n ∷ [])) old new
    → Puts (bool k) line at end old new
flag-put k b n line at end old new is h g =
    let r = reads-flag b 0 line at end h in
    let one = subst (λ (m : ℕ). GainsInRoom (add_to k (plain m ∷ [])) old new) is g in
    record {
      found = flag b;
      stands = r.stands;
      range = r.good.range;
      fitting = refl;
      gains = record { columns = one.columns; frame = one.frame; room = one.room };
      few = one-more k (plain n) (end - at) old new (omega (arith, h.some)) g;
    }

pub number-put : (k bits : ℕ) (signed : Bool) (z : ℤ) (n : ℕ) (line : List ℕ) (at end : ℕ) (old new : List Buffer)
    → n ≡ twos_complement bits z → is_int bits signed z ≡ true → InWord z → StandsFrom (compact_text (data_of (num z))) line at end
    → GainsInRoom (add_to k (plain n ∷ [])) old new → Puts (number k bits signed) line at end old new
number-put k bits signed z n line at end old new is fit word h g =
    let one = subst (λ (m : ℕ). GainsInRoom (add_to k (plain m ∷ [])) old new) is g in
    record {
      found = num z;
      stands = num-stands z line at end word h;
      range = word;
      fitting = fit;
      gains = record { columns = one.columns; frame = one.frame; room = one.room };
      few = one-more k (plain n) (end - at) old new (omega (arith, h.some)) g;
    }

-- a text that is read has room
pub text-ready : (e c : ℕ) (s : List ℕ) (left : ℕ) (bs : List Buffer) → CanPut (text e c) left bs → length s + 1 ≤ left
    → Ready (text e c) (trees.text s) bs
text-ready e c s left bs r le =
    let grown : (k : ℕ) → length (put_tree (text e c) (trees.text s) (cols_of bs) k) ≤ length (cols_of bs k) + left = λ k. omega (
      arith,
      le,
      adds e (plain (last_end (cols_of bs e) + length s) ∷ []) (add_to c (map plain s) (cols_of bs)) k,
      adds c (map plain s) (cols_of bs) k,
      length-plain s,
    ) in
    record {
      size = r.size;
      sound = r.sound;
      differ = r.differ;
      fitting = refl;
      takes = r.takes;
      room = record {
        memory = λ k h. omega (arith, grown k, r.room.memory k h);
        ends = λ k h. omega (arith, grown k, r.room.ends k h);
      };
    }

pub text-put : (e c : ℕ) (s : List ℕ) (line : List ℕ) (at end : ℕ) (old new : List Buffer) → IsBytes s
    → ValueStands (json.string s) line at end → at + length s + 2 ≤ end → GainsInRoom (put_tree (text e c) (trees.text s)) old new
    → Puts (text e c) line at end old new
text-put e c s line at end old new bytes h short g = record {
  found = trees.text s;
  stands = h;
  range = bytes;
  fitting = refl;
  gains = g;
  few = λ k. omega (
    arith,
    short,
    ap (λ (x : Cols). length (x k)) g.columns,
    adds e (plain (last_end (cols_of old e) + length s) ∷ []) (add_to c (map plain s) (cols_of old)) k,
    adds c (map plain s) (cols_of old) k,
    length-plain s,
  );
}
