-- The anchor's key is read from the list of keys that lists it.
use Rattle.std.proofs.Common.{◌≡◌, ℕ, zero, suc, ◌+◌, ◌≤◌, Bool, true, false, cond, ltb, List, [], ◌∷◌, length, take, drop, Option, Some}
use Rattle.std.proofs.Common.{None, Result, Ok, refl, sym, ap, ◌∙◌, arith}
use Rattle.std.proofs.lemmas.Bool.{le-ltb}
use Rattle.std.proofs.lemmas.List.{length-take, length-drop}
use Rattle.std.specs.Int.{w32}
use Rattle.std.specs.Str.{bytes_eq}
use Rattle.nt_num.specs.Place.{At}
use Rattle.nt_num.specs.Cursor.{big}
use Rattle.nt_num.specs.declared.fault.ReadError.{ReadError}
use Rattle.nt_format.specs.Reading.{standing, IsBytes}
use Rattle.nt_lists.specs.Chaining.{◌>>=◌, refused_as}
use Rattle.nt_format.specs.Demands.{bytes_at}
use Rattle.nt_format.specs.Grammars.{IsRead}
use Rattle.nt_format.specs.Relations.{Agrees}
use Rattle.nt_format.proofs.Steps.{IsBytes-drop}
use Rattle.nt_lists.proofs.Chaining.{bind_ok, refused_as_ok}
use Rattle.nt_lists.proofs.Variants.{ok_is}
use Rattle.nt_format.proofs.Grammars.{plain, seq, gives}
use Rattle.nt_format.proofs.Relations.{there, part, piece_bytes, at, stands_from, stands_to}
use Rattle.nt_container.specs.declared.parts.Directory.{Directory}
use Rattle.nt_container.specs.declared.parts.Key.{Key}
use Rattle.nt_num.specs.Codes.{bad_key_list}
use Rattle.nt_num.specs.Faults.{fault}
use Rattle.nt_container.specs.Keys.{anchor_class, key_at, first_anchor, keys_on, anchor_key_in, anchor_key_of}
use Rattle.nt_container.specs.Texts.{Word32, KeysText}
use Rattle.nt_container.specs.Embeds.{first_of_class, Lists}
use Rattle.nt_container.proofs.Texts.{word_32, key}

-- so many keys, one behind the other, each with the class of its object
keys_at : ℕ → At → Result (List (Key × List ℕ) × At) ℕ
keys_at zero here = Ok ([], here)
keys_at (suc n) here = key_at here >>= λ one. keys_at n one.1 >>= λ others. Ok (one.0 ∷ others.0, others.1)

keys : (n : ℕ) → IsRead (keys_at n) (KeysText n)
unfolding keys_at
keys zero = gives []
keys (suc n) = seq _ key λ one. seq _ (keys n) λ others. gives _

-- the first of the class, once there is one
chosen : Option Key → List (Key × List ℕ) → Option Key
chosen (Some first) keys = Some first
chosen None keys = first_of_class keys

chosen-none : (first : Option Key) → chosen first [] ≡ first
unfolding chosen
chosen-none (Some first) = refl
chosen-none None = refl

chosen-one : (test : Bool) (one : Key) (others : List (Key × List ℕ)) → chosen (cond test (Some one) None) others
    ≡ cond test (Some one) (first_of_class others)
unfolding chosen
chosen-one true one others = refl
chosen-one false one others = refl

chosen-next : (first : Option Key) (one : Key × List ℕ) (others : List (Key × List ℕ))
    → chosen (first_anchor first one.0 one.1) others ≡ chosen first (one ∷ others)
unfolding chosen
chosen-next (Some first) one others = refl
chosen-next None one others = chosen-one (bytes_eq one.1 anchor_class) one.0 others

keys-read : (list n : ℕ) (first : Option Key) (here after : At) (all : List (Key × List ℕ)) → keys_at n here ≡ Ok (all, after)
    → keys_on list n first here ≡ Ok (chosen first all)
unfolding keys_at
keys-read list zero first here after all e =
    let none : [] ≡ all = ap (λ (p : List (Key × List ℕ) × At). p.0) (ok_is {E = ℕ} ([], here) (all, after) e) in
    ap (λ (o : Option Key). Ok o) (sym (chosen-none first) ∙ ap (chosen first) none)
keys-read list (suc n) first here after all e =
    let b = bind_ok (key_at here) (λ one. keys_at n one.1 >>= λ others. Ok (one.0 ∷ others.0, others.1)) (all, after) e in
    let c = bind_ok (keys_at n b.0.1) (λ others. Ok (b.0.0 ∷ others.0, others.1)) (all, after) b.2 in
    let same : b.0.0 ∷ c.0.0 ≡ all = ap (λ (p : List (Key × List ℕ) × At). p.0) (ok_is {E = ℕ} (b.0.0 ∷ c.0.0, c.0.1) (all, after) c.2) in
    ap (λ (r : Result ((Key × List ℕ) × At) ℕ). refused_as (fault bad_key_list (list + here.place)) r >>= λ one. keys_on list n
    (first_anchor first one.0.0 one.0.1) one.1) b.1
    ∙ keys-read list n (first_anchor first b.0.0.0 b.0.0.1) b.0.1 c.0.1 c.0.0 c.1
    ∙ ap (λ (o : Option Key). Ok o) (chosen-next first b.0.0 c.0.0 ∙ ap (chosen first) same)

keys-found : (list n : ℕ) (first : Option Key) (here : At) (o : Option Key) → keys_on list n first here ≡ Ok o
    → (all : List (Key × List ℕ)) × (after : At) × (keys_at n here ≡ Ok (all, after)) × (o ≡ chosen first all)
unfolding keys_at
keys-found list zero first here o e = ([], here, refl, sym (ok_is {E = ReadError} first o e) ∙ sym (chosen-none first))
keys-found list (suc n) first here o e =
    let b = bind_ok (refused_as (fault bad_key_list (list + here.place)) (key_at here))
    (λ one. keys_on list n (first_anchor first one.0.0 one.0.1) one.1) o e in
    let one = refused_as_ok (fault bad_key_list (list + here.place)) (key_at here) b.0 b.1 in
    let rest = keys-found list n (first_anchor first b.0.0.0 b.0.0.1) b.0.1 o b.2 in (
      b.0.0 ∷ rest.0,
      rest.1,
      ap (λ (r : Result ((Key × List ℕ) × At) ℕ). r >>= λ one. keys_at n one.1 >>= λ others. Ok (one.0 ∷ others.0, others.1)) one
          ∙ ap (λ (r : Result (List (Key × List ℕ) × At) ℕ). r >>= λ others. Ok (b.0.0 ∷ others.0, others.1)) rest.2,
      rest.3 ∙ chosen-next first b.0.0 rest.0,
    )

-- a number of four bytes
word-len : (text : List ℕ) (n : ℕ) → Word32 text n → length text ≡ 4
word-len text n t = ap (λ (l : List ℕ). length l) t.is

bytes_there : (n : ℕ) (bytes : List ℕ) → n ≤ length bytes → bytes_at n (standing 0 bytes) ≡ Ok (take n bytes, standing n (drop n bytes))
bytes_there n bytes le =
    let test : ltb (length bytes) n ≡ false = le-ltb _ _ le in
    let end : 0 + n ≡ n = omega arith in
    rw (test, end) refl

list-steps : (place : ℕ) (bytes : List ℕ) (own : Key × List ℕ) (after object behind : At) (count : ℕ) (all : List (Key × List ℕ))
    (end : At) (header : List ℕ) (found : Key)
    → key_at (standing 0 bytes) ≡ Ok (own, after) → bytes_at own.0.header_len (standing 0 bytes)
    ≡ Ok (header, object) → big w32 object ≡ Ok (count, behind)
    → keys_at count behind ≡ Ok (all, end) → first_of_class all ≡ Some found → anchor_key_in place (standing 0 bytes) ≡ Ok found
unfolding anchor_key_in chosen
list-steps place bytes own after object behind count all end header found p q r s t =
    rw (p, q, r, keys-read place count None behind end all s, t) refl

key_reads : (file : List ℕ) (d : Directory) (found : Key) → IsBytes file → Lists file d found → anchor_key_of file d ≡ Ok found
unfolding anchor_key_of
key_reads file d found bytes l =
    let fits = piece_bytes file l.list d.keys d.keys_len bytes l.there in
    let header_len : ℕ = l.own.0.header_len in
    let four = word-len l.counted.text l.count l.counted.is in
    let long : header_len ≤ length l.list = omega (
      arith,
      ap (λ (t : List ℕ). length t) l.counted.there,
      length-take (length l.counted.text) (drop header_len l.list),
      length-drop header_len l.list,
      four,
    ) in
    let own = (at key (standing 0 l.list) fits).reads (
      l.own,
      standing (0 + length l.is_own.text)
          (drop (0 + length l.is_own.text) l.list),
    ) (stands_from l.list 0 l.own fits l.is_own) in
    let count = (at word_32 (standing header_len (drop header_len l.list)) (IsBytes-drop header_len l.list fits)).reads
    (l.count, standing (header_len + length l.counted.text) (drop (header_len + length l.counted.text) l.list))
    (stands_from l.list header_len l.count fits l.counted) in
    let behind : standing (header_len + length l.counted.text) (drop (header_len + length l.counted.text) l.list)
    ≡ standing (header_len + 4) (drop (header_len + 4) l.list) =
    ap (λ (k : ℕ). standing (header_len + k) (drop (header_len + k) l.list)) four in
    let all = (at (keys l.count) (standing (header_len + 4) (drop (header_len + 4) l.list))
    (IsBytes-drop (header_len + 4) l.list fits)).reads (
      l.keys,
      standing (header_len + 4 + length l.listed.text)
          (drop (header_len + 4 + length l.listed.text) l.list),
    ) (stands_from l.list (header_len + 4) l.keys fits l.listed) in
    rw (l.there) (list-steps d.keys l.list l.own _ _ _ l.count l.keys _ _ found own (bytes_there header_len l.list long)
    (count ∙ ap (λ (a : At). Ok (l.count, a)) behind) all l.first)

-- what the steps of the reading found
record Found (list : At) (found : Key) : Type 0 where
  own : (Key × List ℕ) × At
  object : List ℕ × At
  count : ℕ × At
  all : List (Key × List ℕ)
  end : At
  is_own : key_at list ≡ Ok own
  is_object : bytes_at own.0.0.header_len list ≡ Ok object
  is_count : big w32 object.1 ≡ Ok count
  are_keys : keys_at count.0 count.1 ≡ Ok (all, end)
  first : first_of_class all ≡ Some found

key_found : (place : ℕ) (list : At) (found : Key) → anchor_key_in place list ≡ Ok found → Found list found
unfolding anchor_key_in chosen
key_found place list found e =
    let f : ReadError = fault bad_key_list place in
    let a = bind_ok (refused_as f (key_at list)) _ found e in
    let b = bind_ok (refused_as f (bytes_at a.0.0.0.header_len list)) _ found a.2 in
    let c = bind_ok (refused_as f (big w32 b.0.1)) _ found b.2 in
    let d = bind_ok (keys_on place c.0.0 None c.0.1) _ found c.2 in
    let k = keys-found place c.0.0 None c.0.1 d.0 d.1 in
    record {
      own = a.0;
      object = b.0;
      count = c.0;
      all = k.0;
      end = k.1;
      is_own = refused_as_ok f (key_at list) a.0 a.1;
      is_object = refused_as_ok f (bytes_at a.0.0.0.header_len list) b.0 b.1;
      is_count = refused_as_ok f (big w32 b.0.1) c.0 c.1;
      are_keys = k.2;
      first = sym k.3 ∙ (there _ d.0).finds found d.2;
    }

from_start : (n m : ℕ) → n ≡ m → 0 + n ≡ m
from_start n m e = omega (arith, e)

key_lists : (file : List ℕ) (d : Directory) (found : Key) → IsBytes file → anchor_key_of file d ≡ Ok found → Lists file d found
unfolding anchor_key_of
key_lists file d found bytes e =
    let a = bind_ok _ (anchor_key_in d.keys) found e in
    let list : At = a.0 in
    let p = (part _ file d.keys d.keys_len).finds list a.1 in
    let fits = piece_bytes file list.left d.keys d.keys_len bytes p.is in
    let f = key_found d.keys list found a.2 in
    let own = stands_to list.left 0 f.own.0 list f.own.1 refl ((at key list fits).finds f.own f.is_own) in
    let object = (at (plain f.own.0.0.header_len) list fits).finds f.object f.is_object in
    let header : object.text ≡ f.object.0 = object.is.is in
    let header_len : length object.text ≡ f.own.0.0.header_len = ap (λ (l : List ℕ). length l) header ∙ object.is.fits in
    let behind = stands_to list.left 0 f.object.0 list f.object.1 refl object in
    let left : f.object.1.left ≡ drop f.own.0.0.header_len list.left =
    behind.1 ∙ ap (λ (k : ℕ). drop k list.left) (from_start (length object.text) f.own.0.0.header_len header_len) in
    let count = (at word_32 f.object.1 object.takes.bytes).finds f.count f.is_count in
    let counted = stands_to list.left f.own.0.0.header_len f.count.0 f.object.1 f.count.1 left count in
    let more : f.count.1.left ≡ drop (f.own.0.0.header_len + 4) list.left =
    counted.1 ∙ ap (λ (k : ℕ). drop (f.own.0.0.header_len + k) list.left) (word-len count.text f.count.0 count.is) in
    let all = (at (keys f.count.0) f.count.1 count.takes.bytes).finds (f.all, f.end) f.are_keys in
    record {
      list = list.left;
      own = f.own.0;
      count = f.count.0;
      keys = f.all;
      there = p.is;
      is_own = own.0;
      counted = counted.0;
      listed = (stands_to list.left (f.own.0.0.header_len + 4) f.all f.count.1 f.end more all).0;
      first = f.first;
    }

pub anchor_key : (file : List ℕ) (d : Directory) → IsBytes file → Agrees (anchor_key_of file d) (Lists file d)
anchor_key file d bytes = record { reads = λ k l. key_reads file d k bytes l; finds = λ k e. key_lists file d k bytes e }
