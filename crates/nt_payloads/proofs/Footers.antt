-- The payload of a footer is read as the rows and groups that stand in it.
use Rattle.std.proofs.Common.{◌≡◌, ℕ, ◌+◌, ◌^◌, ◌<◌, Bool, true, false, cond, eqb, List, [], ◌∷◌, ◌++◌, length, Result, Ok, refl, sym, ap}
use Rattle.std.proofs.Common.{subst, ◌∙◌, append_assoc, arith}
use Rattle.std.specs.Int.{w64, to_le_bytes}
use Rattle.std.proofs.lemmas.Bool.{eqb-true, eq-eqb, ne_eqb}
use Rattle.std.proofs.lemmas.List.{append-nil, length-append}
use Rattle.nt_num.specs.Place.{At}
use Rattle.nt_num.specs.declared.fault.ReadError.{ReadError}
use Rattle.nt_lists.proofs.Variants.{ok_is}
use Rattle.nt_format.specs.Reading.{standing, IsBytes, Takes}
use Rattle.nt_format.specs.Frames.{record_frame, list_frame, IsRecord}
use Rattle.nt_format.specs.Relations.{Agrees, With, Is, Stands}
use Rattle.nt_format.proofs.Relations.{bind, exactly, in_words}
use Rattle.nt_grammar.specs.Table.{Table}
use Rattle.nt_grammar.specs.Reading.{description_at}
use Rattle.nt_grammar.specs.declared.part.Part.TheVariants.{Extension}
use Rattle.nt_pagelists.specs.declared.group.Group.{Group}
use Rattle.nt_pagelists.specs.Footers.{extension_at, footer_at}
use Rattle.nt_payloads.specs.Framed.{InRecord, InList, Items}
use Rattle.nt_payloads.specs.Footers.{GroupText, ExtensionText, no_extension, extended_by, IsFooter}
use Rattle.nt_payloads.proofs.Texts.{Opens, Both, Done, part_bytes, seq_open, done_open}
use Rattle.nt_payloads.specs.Descriptions.{AddsDescription}
use Rattle.nt_payloads.proofs.Frames.{record_steps, record_there, opens_front}
use Rattle.nt_payloads.proofs.Headers.{FlagsWord, flags}
use Rattle.nt_payloads.proofs.Descriptions.{described}
use Rattle.nt_payloads.proofs.PageLists.{SumWord, header_sum}
use Rattle.nt_payloads.proofs.Groups.{InGroups, groups_are}

-- a result is itself
itself : {V E : Type 0} (r : Result V E) → Agrees r (λ x. r ≡ Ok x)
itself r = record { reads = λ x e. e; finds = λ x e. e }

-- the rows with those of what stands in the extension's frame
rows_of : Table → At → Result (Table × At) ReadError
rows_of t inside = cond (eqb (length inside.left) 0) (Ok (t, inside)) (description_at Extension t inside)

ExtensionSteps : Table → At → Table × At → Type 0
ExtensionSteps t here =
    With (λ (r : At × At). IsRecord here r.0 r.1) λ frame. With (λ (m : Table × At). rows_of t frame.0 ≡ Ok m) λ more. Is (more.0, frame.1)

extension_steps : (t : Table) (here : At) → IsBytes here.left → Agrees (extension_at t here) (ExtensionSteps t here)
unfolding extension_at ExtensionSteps rows_of
extension_steps t here bytes = bind _ (record_steps here bytes) λ frame f. bind _ (itself _) λ more m. exactly (more.0, frame.1)

no_bytes : (bytes : List ℕ) → length bytes ≡ 0 → bytes ≡ []
no_bytes [] e = refl
no_bytes (b ∷ bs) e = absurd (omega (arith, e))

some_rows : (t : Table) (place : ℕ) (inside : At) (more : Table × At) (none : Bool) → IsBytes inside.left
    → eqb (length inside.left) 0 ≡ none → inside.place ≡ place + 8 → 8 + length inside.left < 2 ^ 63
    → rows_of t inside ≡ Ok more → ExtensionText t place (record_frame inside.left) more.0
unfolding rows_of
some_rows t place inside more true bytes n at size e =
    let empty : inside.left ≡ [] = no_bytes inside.left (eqb-true _ _ n) in
    let rows : (t, inside) ≡ more =
    ok_is {E = ReadError} (t, inside) more
    (sym (ap (λ (b : Bool). cond b (Ok (t, inside)) (description_at Extension t inside)) n) ∙ e) in
    subst (λ (x : List ℕ). ExtensionText t place (record_frame x) more.0) (sym empty)
    (subst (λ (u : Table). ExtensionText t place (record_frame []) u) (ap (λ (p : Table × At). p.0) rows) no_extension)
some_rows t place inside more false bytes n at size e =
    let rows : description_at Extension t inside ≡ Ok more =
    sym (ap (λ (b : Bool). cond b (Ok (t, inside)) (description_at Extension t inside)) n) ∙ e in
    let s = (described Extension t inside bytes).finds more rows in
    extended_by (record {
      known = s.text;
      more = more.1.left;
      frame = ap (λ (x : List ℕ). record_frame x) s.takes.parts;
      size = subst (λ (x : List ℕ). 8 + length x < 2 ^ 63) s.takes.parts size;
      is = subst (λ (k : ℕ). AddsDescription Extension t k s.text more.0) at s.is;
    })

-- what an extension's frame holds
record HasRows (t : Table) (place : ℕ) (text : List ℕ) (read : Table) : Type 0 where
  inside : List ℕ
  after : At
  frame : text ≡ record_frame inside
  size : 8 + length inside < 2 ^ 63
  rows : rows_of t (standing (place + 8) inside) ≡ Ok (read, after)

-- a description isn't empty
not_empty : (t read : Table) (place : ℕ) (known more : List ℕ) → AddsDescription Extension t place known read → length (known ++ more) ≡ 0
    → ⊥
not_empty t read place known more a z =
    let d = a.is in
    let f = d.are_fields in
    let whole : length known ≡ length (d.fields ++ (d.columns ++ (d.aliases ++ d.types))) = ap (λ (x : List ℕ). length x) d.parts in
    let first : length d.fields ≡ length (list_frame f.count (f.known ++ f.more)) = ap (λ (x : List ℕ). length x) f.frame in
    let some : length (list_frame f.count (f.known ++ f.more)) ≡ 12 + length (f.known ++ f.more) = omega arith in
    omega (arith, z, whole, first, some, length-append known more, length-append d.fields (d.columns ++ (d.aliases ++ d.types)))

has_rows : (t : Table) (place : ℕ) (text : List ℕ) (read : Table)
    → ((inside : List ℕ) → text ≡ record_frame inside → 8 + length inside < 2 ^ 63 → IsBytes inside) → ExtensionText t place text read
    → HasRows t place text read
unfolding rows_of
has_rows t place text read bytes no_extension =
    record { inside = []; after = standing (place + 8) []; frame = refl; size = omega arith; rows = refl }
has_rows t place text read bytes (extended_by r) =
    let inside = r.known ++ r.more in
    let after : At = standing (place + 8 + length r.known) r.more in
    let differs : eqb (length inside) 0 ≡ false = ne_eqb _ _ (λ z. not_empty t read (place + 8) r.known r.more r.is z) in
    let fits = bytes inside r.frame r.size in
    let stands : Stands (AddsDescription Extension t (place + 8)) (standing (place + 8) inside) (read, after) =
    record { text = r.known; takes = opens_front (place + 8) r.known r.more fits; is = r.is } in
    record {
      inside = inside;
      after = after;
      frame = r.frame;
      size = r.size;
      rows = ap (λ (b : Bool). cond b (Ok (t, standing (place + 8) inside))
          (description_at Extension t (standing (place + 8) inside))) differs
          ∙ (described Extension t (standing (place + 8) inside) fits).reads (read, after) stands;
    }

extension : (t : Table) (here : At) → IsBytes here.left → Agrees (extension_at t here) (Stands (ExtensionText t here.place) here)
unfolding ExtensionSteps
extension t here bytes = in_words
    (λ y w.
    let f = w.first in
    let inside = w.middle.0 in
    let made = some_rows t here.place inside w.second.middle (eqb (length inside.left) 0) f.bytes refl f.place f.size w.second.first in
    record {
      text = record_frame inside.left;
      takes = subst (λ (a : At). Takes here (record_frame inside.left) a) (sym (ap (λ (p : Table × At). p.1) w.second.second)) f.frame;
      is = subst (λ (u : Table). ExtensionText t here.place (record_frame inside.left) u)
          (sym (ap (λ (p : Table × At). p.0) w.second.second)) made;
    })
    (λ y s.
    let h = has_rows t here.place s.text y.0 (λ inside e size. (record_there here y.1 inside s.text bytes s.takes e size).bytes) s.is in
    record {
      middle = (standing (here.place + 8) h.inside, y.1);
      first = record_there here y.1 h.inside s.text bytes s.takes h.frame h.size;
      second = record { middle = (y.0, h.after); first = h.rows; second = refl };
    })
    (extension_steps t here bytes)

abbrev Steps : ℕ → Table → ℕ → List ℕ → Table × List Group → Type 0
Steps sum t = Both FlagsWord λ none. Both (SumWord sum) λ word. Both (ExtensionText t) λ more. Both (InList InGroups) λ gs. Done (more, gs)

steps : (sum : ℕ) (t : Table) (here : At) → IsBytes here.left → Agrees (footer_at sum t here) (Opens (Steps sum t) here)
unfolding footer_at
steps sum t here bytes =
    seq_open _ bytes (flags here bytes) λ none m fm. seq_open _ fm (header_sum sum m fm) λ word n fn. seq_open _ fn
    (extension t n fn) λ more o fo.
    seq_open _ fo (groups_are o fo) λ gs q fq. done_open (more, gs) fq

grouped : (a b c d e : List ℕ) → (a ++ (b ++ (c ++ d))) ++ e ≡ a ++ (b ++ (c ++ (d ++ e)))
grouped a b c d e = simp append_assoc

pub footer : (sum : ℕ) (t : Table) (place : ℕ) (payload : List ℕ) → IsBytes payload
    → Agrees (footer_at sum t (standing place payload)) (IsFooter sum t place payload)
footer sum t place payload bytes = in_words to from (steps sum t (standing place payload) bytes)
  where
    found : (none word : ℕ) (more : Table) (gs : List Group) (a b c d rest : List ℕ) → payload ≡ a ++ (b ++ (c ++ (d ++ rest)))
        → FlagsWord place a none → SumWord sum (place + length a) b word
        → ExtensionText t (place + length a + length b) c more → InList InGroups (place + length a + length b + length c) d gs
        → IsFooter sum t place payload (more, gs)
    found none word more gs a b c d rest parts f w x l =
        let zero_is : a ≡ to_le_bytes w64 0 = f.0.is ∙ ap (λ (n : ℕ). to_le_bytes w64 n) (eqb-true _ _ f.1) in
        let sum_is : b ≡ to_le_bytes w64 sum = w.0.is ∙ ap (λ (n : ℕ). to_le_bytes w64 n) (eqb-true _ _ w.1) in
        let a_len : length a ≡ 8 = ap (λ (y : List ℕ). length y) zero_is in
        let b_len : length b ≡ 8 = ap (λ (y : List ℕ). length y) sum_is in
        let at : place + length a + length b ≡ place + 16 = omega (arith, a_len, b_len) in
        record {
          extension = c;
          groups = d;
          more = rest;
          parts = parts ∙ ap (λ (y : List ℕ). y ++ (b ++ (c ++ (d ++ rest)))) zero_is
              ∙ ap (λ (y : List ℕ). to_le_bytes w64 0 ++ (y ++ (c ++ (d ++ rest)))) sum_is;
          fits = subst (λ (n : ℕ). n < 2 ^ 64) (eqb-true _ _ w.1) w.0.fits;
          extends = subst (λ (k : ℕ). ExtensionText t k c more) at x;
          are_groups = subst (λ (k : ℕ). InList (Items (InRecord GroupText)) (k + length c) d gs) at
              (record { count = l.count; known = l.known; more = l.more; frame = l.frame; few = l.few; size = l.size; is = l.is.items });
          behind = l.is.behind;
        }

    to : (read : Table × List Group) → Opens (Steps sum t) (standing place payload) read → IsFooter sum t place payload read
    to read o =
        let f = o.is in
        let w = f.is_second in
        let x = w.is_second in
        let l = x.is_second in
        let last : l.first ++ l.second ≡ l.first = ap (λ (y : List ℕ). l.first ++ y) l.is_second.none ∙ append-nil l.first in
        let text : o.text ≡ f.first ++ (w.first ++ (x.first ++ l.first)) =
        f.parts ∙ ap (λ (y : List ℕ). f.first ++ y)
        (w.parts ∙ ap (λ (y : List ℕ). w.first ++ y) (x.parts ∙ ap (λ (y : List ℕ). x.first ++ y) (l.parts ∙ last))) in
        let parts : payload ≡ f.first ++ (w.first ++ (x.first ++ (l.first ++ o.rest.left))) =
        o.takes.parts ∙ ap (λ (y : List ℕ). y ++ o.rest.left) text ∙ grouped f.first w.first x.first l.first o.rest.left in
        subst (IsFooter sum t place payload) (sym l.is_second.is)
        (found f.head w.head x.head l.head f.first w.first x.first l.first o.rest.left parts f.is_first w.is_first x.is_first l.is_first)

    from : (read : Table × List Group) → IsFooter sum t place payload read → Opens (Steps sum t) (standing place payload) read
    from read i =
        let a = to_le_bytes w64 0 in
        let b = to_le_bytes w64 sum in
        let front = a ++ (b ++ (i.extension ++ i.groups)) in
        let l = i.are_groups in
        let parts : payload ≡ front ++ i.more = i.parts ∙ sym (grouped a b i.extension i.groups i.more) in
        let at : place + 16 ≡ place + 8 + 8 = omega arith in
        record {
          text = front;
          rest = standing (place + length front) i.more;
          takes = record {
            parts = parts;
            place = refl;
            bytes = part_bytes front i.more [] payload bytes (parts ∙ ap (λ (y : List ℕ). front ++ y) (sym (append-nil i.more)));
          };
          is = record {
            head = 0;
            first = a;
            second = b ++ (i.extension ++ i.groups);
            parts = refl;
            is_first = (record { is = refl; fits = omega arith }, refl);
            is_second = record {
              head = sum;
              first = b;
              second = i.extension ++ i.groups;
              parts = refl;
              is_first = (record { is = refl; fits = i.fits }, eq-eqb _ _ refl);
              is_second = record {
                head = read.0;
                first = i.extension;
                second = i.groups;
                parts = refl;
                is_first = subst (λ (k : ℕ). ExtensionText t k i.extension read.0) at i.extends;
                is_second = record {
                  head = read.1;
                  first = i.groups;
                  second = [];
                  parts = sym (append-nil i.groups);
                  is_first = subst (λ (k : ℕ). InList InGroups (k + length i.extension) i.groups read.1) at
                      (record {
                        count = l.count;
                        known = l.known;
                        more = l.more;
                        frame = l.frame;
                        few = l.few;
                        size = l.size;
                        is = record { items = l.is; behind = i.behind };
                      });
                  is_second = record { none = refl; is = refl };
                };
              };
            };
          };
        }
