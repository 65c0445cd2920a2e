-- A text made piece by piece.
use Rattle.std.proofs.Common.{◌≡◌, ℕ, ◌+◌, ◌<◌, List, [], ◌∷◌, ◌++◌, length, get_or, take, codes, decimal, Option, sym, refl, ap, ◌∙◌, append_assoc, append-nil}
use Rattle.std.proofs.lemmas.List.{take_more}
use Rattle.calls.specs.declared.fields.Line.{Line}
use Rattle.calls.specs.declared.fields.Call.{Call}
use Rattle.feed.specs.declared.fault.Fault.{Fault}
use Rattle.feed.specs.Cuts.{Cuts}
use Rattle.listing.specs.Listing.{line_figures, lines_figures, figures_text, call_text, calls_text, ending_text, Listed}

figures_append : (ms ns : List ℕ) → figures_text (ms ++ ns) ≡ figures_text ms ++ figures_text ns
figures_append [] ns = refl
figures_append (m ∷ ms) ns =
    let first : List ℕ = codes " " ++ decimal m in
    ap (λ x. first ++ x) (figures_append ms ns) ∙ sym (append_assoc first (figures_text ms) (figures_text ns))

lines_append : (ls ms : List Line) → figures_text (lines_figures (ls ++ ms)) ≡ figures_text (lines_figures ls) ++ figures_text (lines_figures ms)
lines_append [] ms = refl
lines_append (l ∷ ls) ms =
    let text : List Line → List ℕ = λ xs. figures_text (lines_figures xs) in
    let first = figures_text (line_figures l) in
    figures_append (line_figures l) (lines_figures (ls ++ ms)) ∙ ap (λ x. first ++ x) (lines_append ls ms) ∙ sym (append_assoc first (text ls) (text ms))
    ∙ ap (λ x. x ++ text ms) (sym (figures_append (line_figures l) (lines_figures ls)))

-- one line more is written
pub lines_more : (ls : List Line) (i : ℕ) (d : Line) → i < length ls
    → figures_text (lines_figures (take i ls)) ++ figures_text (line_figures (get_or ls i d)) ≡ figures_text (lines_figures (take (i + 1) ls))
lines_more ls i d h = sym (ap (λ xs. figures_text (lines_figures xs)) (take_more ls i d h) ∙ lines_append (take i ls) (get_or ls i d ∷ []))

-- one call more at the end
pub calls_push : (cs : List Call) (c : Call) → calls_text (cs ++ (c ∷ [])) ≡ calls_text cs ++ call_text c
calls_push [] c = append-nil (call_text c)
calls_push (d ∷ cs) c = ap (λ x. call_text d ++ x) (calls_push cs c) ∙ sym (append_assoc (call_text d) (calls_text cs) (call_text c))

pub listed : (feed text : List ℕ) (cs : List Call) (f : Option Fault) → Cuts 1 0 feed cs f → text ≡ calls_text cs ++ ending_text f → Listed feed text
listed feed text cs f cut e = record { calls = cs; fault = f; cut = cut; text_is = e }
