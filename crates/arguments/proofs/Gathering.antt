-- The entries of all words, put one behind the other: each turn of the loop. Assumes nothing.
use Rattle.std.proofs.Common.{◌≡◌, ℕ, ◌+◌, ◌≤◌, List, [], ◌∷◌, ◌++◌, length, refl, sym, ap, ◌∙◌, append_assoc, append-nil, if◌then◌else◌}
use Rattle.reference.specs.Text.{Text}
use Rattle.text.specs.Cursor.{Puts}
use Rattle.text.specs.declared.cursor.Cursor.{Cursor}
use Rattle.text.proofs.Cursors.{puts_none, then_puts, puts_as}
use Rattle.words.specs.Splitting.{split}
use Rattle.arguments.specs.Words.{is_at}
use Rattle.arguments.specs.Entries.{entry_bytes}
use Rattle.arguments.specs.declared.request.Request.{Request}
use Rattle.arguments.specs.Requests.{none_yet, step_of, entries_from, entries_of}

-- the entries of the words before `left` are put; s is what is known before word k, the first of `left`
pub record Begun (words : Text) (p₀ : Cursor) (s : Request) (k : ℕ) (left : Text) (p : Cursor) : Type 0 where
  pub done : Text
  pub put : Puts p₀ done p
  pub begins : p₀.at ≤ length p₀.out.now
  pub rest : entries_of (split words) ≡ done ++ entries_from s k (split left)

pub begun_first : (words : Text) {s : Request} {p : Cursor} → s ≡ none_yet → p.at ≤ length p.out.now → Begun words p s 0 words p
unfolding entries_of
begun_first words e h = rw e (record { done = []; put = puts_none; begins = h; rest = refl })

module _ (words left : Text) {p₀ : Cursor} {word after : Text} (splits : split left ≡ word ∷ split after) (s : Request) (k : ℕ) {s' : Request}
    (steps : s' ≡ step_of s k word) where
  pub begun-next : {p p' : Cursor} → Begun words p₀ s k left p → Puts p (if is_at s'.start.entry k then entry_bytes word else []) p'
      → Begun words p₀ s' (k + 1) after p'
  unfolding entries_from
  begun-next b w =
      let piece : Text = if is_at s'.start.entry k then entry_bytes word else [] in
      let d : Text = b.done in
      let next : entries_from s k (split left) ≡ piece ++ entries_from s' (k + 1) (split after) =
      ap (λ (ws : List Text). entries_from s k ws) splits ∙ rw steps refl in
      record {
        done = d ++ piece;
        put = then_puts b.put b.begins w;
        begins = b.begins;
        rest = b.rest ∙ ap (λ (t : Text). d ++ t) next ∙ sym (append_assoc d piece (entries_from s' (k + 1) (split after)));
      }

pub begun_all : (words : Text) {s : Request} {k : ℕ} {left : Text} {p₀ p : Cursor} → split left ≡ [] → Begun words p₀ s k left p
    → Puts p₀ (entries_of (split words)) p
unfolding entries_from
begun_all words {s} {k} e b =
    puts_as b.put (sym (b.rest ∙ ap (λ (ws : List Text). b.done ++ entries_from s k ws) e ∙ append-nil b.done))
