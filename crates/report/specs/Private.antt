-- What the private writers promise: a page fills from its start. No public promise speaks of this.
use Rattle.std.specs.Prelude.{ℕ, ◌+◌, ◌≡◌, cond, List, [], ◌∷◌, length, set, ltb}
use Rattle.report.specs.declared.page.Page.{Page}

-- what a page has: a buffer, and the position of the next character
pub record Content : Type 0 where
  pub buffer : List ℕ
  pub at : ℕ

abbrev pub content : List ℕ → ℕ → Content
content buffer at = record { buffer = buffer; at = at }

abbrev pub content_of : Page → Content
content_of page = content page.text.now page.at

-- one character more; a full page stays as it is
unfoldable pub with_character : ℕ → Content → Content
with_character c p = cond (ltb p.at (length p.buffer)) (content (set p.buffer p.at c) (p.at + 1)) p

-- a text more
unfoldable pub with_text : List ℕ → Content → Content
with_text [] p = p
with_text (c ∷ cs) p = with_text cs (with_character c p)

-- a writer adds a text to a page, in the same buffer
pub record Writes (text : List ℕ) (before after : Page) : Type 0 where
  pub adds : content_of after ≡ with_text text (content_of before)
  pub same_buffer : after.text.ghost_name ≡ before.text.ghost_name
