-- The index of a column's first element is read as what stands there.
use Rattle.std.proofs.Common.{◌≡◌, ℕ, ℤ, ◌^◌, ◌<◌, ◌≤◌, Bool, true, false, true≢false, cond, leb, List, [], ◌++◌, Ok, Err, refl, sym, ap}
use Rattle.std.proofs.Common.{subst, ◌∙◌, arith}
use Rattle.std.specs.Int.{w32, w64, to_le_bytes, cast_signed}
use Rattle.std.proofs.lemmas.Bool.{le-leb, lt-leb, leb-true, leb-false}
use Rattle.std.proofs.lemmas.List.{append-nil}
use Rattle.std.proofs.lemmas.Int.{of_z-to_z}
use mir.ValLaws.{to_z-Fits}
use Rattle.nt_num.specs.Place.{At}
use Rattle.nt_num.specs.Cursor.{little}
use Rattle.nt_num.specs.declared.fault.ReadError.{ReadError}
use Rattle.nt_format.specs.Reading.{placed, IsBytes}
use Rattle.nt_format.specs.Numbers.{signed}
use Rattle.nt_format.specs.Grammars.{Spelled}
use Rattle.nt_format.specs.Relations.{Agrees, Stands}
use Rattle.nt_pagelists.specs.declared.column.KnownColumn.{KnownColumn}
use Rattle.nt_pagelists.specs.declared.cluster.ClusterSummary.{ClusterSummary}
use Rattle.nt_pagelists.specs.Pages.{element_offset_at}
use Rattle.nt_payloads.specs.ListTexts.{index_word, IndexText, with_setting, suppressed}
use Rattle.nt_payloads.proofs.Texts.{Both, Done, reword, seq, done}
use Rattle.nt_payloads.proofs.Tests.{Word32, Word64, word32, word64}

-- the setting behind an index of this word
data SettingText (c : KnownColumn) (word : ℕ) : List ℕ → ℕ → Type 0 where
  unset : leb (2 ^ 63) word ≡ true → c.is_open ≡ false → SettingText c word [] 0
  set : {text : List ℕ} {setting : ℕ} → leb (2 ^ 63) word ≡ false → Spelled (to_le_bytes w32) (λ n. n < 2 ^ 32) text setting
      → SettingText c word text setting

setting_by : (c : KnownColumn) (word : ℕ) (negative is_open : Bool) (e : ReadError) (here : At) → IsBytes here.left
    → leb (2 ^ 63) word ≡ negative → c.is_open ≡ is_open
    → Agrees (cond negative (cond is_open (Err e) (Ok (0, here))) (placed (little w32 here))) (Stands (SettingText c word) here)
setting_by c word true true e here bytes n o = record { reads = λ y s. absurd (none s.text y.0 s.is); finds = λ y h. absurd cc }
  where
    none : (text : List ℕ) (setting : ℕ) → SettingText c word text setting → ⊥
    none text setting (unset m closed) = absurd (true≢false (sym o ∙ closed))
    none text setting (set m is) = absurd (true≢false (sym n ∙ m))
setting_by c word true false e here bytes n o = reword
    (λ text setting d. subst (λ (t : List ℕ). SettingText c word t setting) (sym d.none)
    (subst (λ (k : ℕ). SettingText c word [] k) (sym d.is) (unset n o)))
    (λ text setting s. no_more text setting s)
    (done 0 bytes)
  where
    no_more : (text : List ℕ) (setting : ℕ) → SettingText c word text setting → Done 0 here.place text setting
    no_more text setting (unset m closed) = record { none = refl; is = refl }
    no_more text setting (set m is) = absurd (true≢false (sym n ∙ m))
setting_by c word false is_open e here bytes n o = reword
    (λ text setting s. set n s)
    (λ text setting s. spelled_so text setting s)
    (word32 here bytes)
  where
    spelled_so : (text : List ℕ) (setting : ℕ) → SettingText c word text setting → Word32 here.place text setting
    spelled_so text setting (unset m closed) = absurd (true≢false (sym m ∙ n))
    spelled_so text setting (set m is) = is

abbrev IndexSteps : KnownColumn → ℕ → List ℕ → ℕ → Type 0
IndexSteps c = Both Word64 λ word. Both (λ place. SettingText c word) λ setting. Done word

index_steps : (k : ClusterSummary) (id : ℕ) (c : KnownColumn) (frame : ℕ) (here : At) → IsBytes here.left
    → Agrees (element_offset_at k id c frame here) (Stands (IndexSteps c here.place) here)
unfolding element_offset_at
index_steps k id c frame here bytes =
    seq _ bytes (word64 here bytes) λ word m fm. seq _ fm
    (setting_by c word (leb (2 ^ 63) word) c.is_open _ m fm refl refl) λ setting n fn. done word fn

-- an index, as its word; that of an open column isn't negative
pub record IsIndex (c : KnownColumn) (place : ℕ) (text : List ℕ) (word : ℕ) : Type 0 where
  pub is : IndexText text (cast_signed w64 word)
  pub fits : word < 2 ^ 64
  pub stored : c.is_open ≡ true → word < 2 ^ 63

pub word_back : (word : ℕ) → word < 2 ^ 64 → index_word (cast_signed w64 word) ≡ word
word_back word fits = of_z-to_z w64 word fits

pub index : (k : ClusterSummary) (id : ℕ) (c : KnownColumn) (frame : ℕ) (here : At) → IsBytes here.left
    → Agrees (element_offset_at k id c frame here) (Stands (IsIndex c here.place) here)
index k id c frame here bytes = reword to from (index_steps k id c frame here bytes)
  where
    made : (word setting : ℕ) (first second third text : List ℕ) → text ≡ first ++ second → second ≡ third ++ []
        → Word64 here.place first word → SettingText c word third setting → IsIndex c here.place text word
    made word setting first second third text p q w (unset n o) =
        let alone : text ≡ signed w64 (cast_signed w64 word) = p ∙ ap (λ (l : List ℕ). first ++ l) q ∙ append-nil first ∙ w.is
        ∙ ap (λ (n : ℕ). to_le_bytes w64 n) (sym (word_back word w.fits)) in
        record {
          is = subst (λ (t : List ℕ). IndexText t (cast_signed w64 word)) (sym alone)
              (suppressed (to_z-Fits w64 word (record { fits = w.fits }))
              (subst (λ (n : ℕ). 2 ^ 63 ≤ n) (sym (word_back word w.fits)) (leb-true _ _ n)));
          fits = w.fits;
          stored = λ s. absurd (true≢false (sym s ∙ o));
        }
    made word setting first second third text p q w (set n s) =
        let low : word < 2 ^ 63 = leb-false _ _ n in
        let both : text ≡ signed w64 (cast_signed w64 word) ++ to_le_bytes w32 setting =
        p ∙ ap (λ (l : List ℕ). first ++ l) (q ∙ append-nil third ∙ s.is)
        ∙ ap (λ (l : List ℕ). l ++ to_le_bytes w32 setting) (w.is ∙ ap (λ (n : ℕ). to_le_bytes w64 n) (sym (word_back word w.fits))) in
        record {
          is = subst (λ (t : List ℕ). IndexText t (cast_signed w64 word)) (sym both)
              (with_setting (to_z-Fits w64 word (record { fits = w.fits }))
              (subst (λ (n : ℕ). n < 2 ^ 63) (sym (word_back word w.fits)) low) s.fits);
          fits = w.fits;
          stored = λ s. low;
        }

    to : (text : List ℕ) (word : ℕ) → IndexSteps c here.place text word → IsIndex c here.place text word
    to text word t =
        let found = made t.head t.is_second.head t.first t.second t.is_second.first text t.parts
        (t.is_second.parts ∙ ap (λ (l : List ℕ). t.is_second.first ++ l) t.is_second.is_second.none) t.is_first t.is_second.is_first in
        subst (λ (n : ℕ). IsIndex c here.place text n) (sym t.is_second.is_second.is) found

    split : (text : List ℕ) (word : ℕ) (z : ℤ) → z ≡ cast_signed w64 word → word < 2 ^ 64 → (c.is_open ≡ true → word < 2 ^ 63)
        → IndexText text z → IndexSteps c here.place text word
    split text word z is fits stored (with_setting {setting = setting} f low small) =
        let same : index_word z ≡ word = ap index_word is ∙ word_back word fits in
        record {
          head = word;
          first = signed w64 z;
          second = to_le_bytes w32 setting;
          parts = refl;
          is_first = record { is = ap (λ (n : ℕ). to_le_bytes w64 n) same; fits = fits };
          is_second = record {
            head = setting;
            first = to_le_bytes w32 setting;
            second = [];
            parts = sym (append-nil (to_le_bytes w32 setting));
            is_first = set (lt-leb _ _ (subst (λ (n : ℕ). n < 2 ^ 63) same low)) (record { is = refl; fits = small });
            is_second = record { none = refl; is = refl };
          };
        }
    split text word z is fits stored (suppressed f high) =
        let same : index_word z ≡ word = ap index_word is ∙ word_back word fits in
        let top : 2 ^ 63 ≤ word = subst (λ (n : ℕ). 2 ^ 63 ≤ n) same high in
        record {
          head = word;
          first = signed w64 z;
          second = [];
          parts = sym (append-nil (signed w64 z));
          is_first = record { is = ap (λ (n : ℕ). to_le_bytes w64 n) same; fits = fits };
          is_second = record {
            head = 0;
            first = [];
            second = [];
            parts = refl;
            is_first = unset (le-leb _ _ top) (closed_by c.is_open refl top);
            is_second = record { none = refl; is = refl };
          };
        }
      where
        closed_by : (o : Bool) → c.is_open ≡ o → 2 ^ 63 ≤ word → c.is_open ≡ false
        closed_by true e top = absurd (omega (arith, stored e, top))
        closed_by false e top = e

    from : (text : List ℕ) (word : ℕ) → IsIndex c here.place text word → IndexSteps c here.place text word
    from text word t = split text word (cast_signed w64 word) refl t.fits t.stored t.is
