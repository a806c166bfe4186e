use Rattle.std.proofs.Common.{◌≡◌, ℕ, ◌+◌, ◌-◌, List, take, drop, length, Some, sym, ap, ◌∙◌, arith}
use Rattle.std.proofs.lemmas.Bool.{eqb-true, eqb-false}
use Rattle.std.proofs.lemmas.List.{drop-drop}
use Rattle.lines.specs.Words.{is_space, other, words, first, others}
use Rattle.lines.specs.Lexers.{Spelled, spelled_at}
use Rattle.lines.proofs.Runs.{run_length}
use Rattle.lines.proofs.Lexing.{none_left, none_here, no_word, word_cut, word_is}
use Rattle.lines.proofs.lexer.Lexer.next_word.Goals as goal

pub returns-then-is_empty : goal.returns-then-is_empty
returns-then-is_empty c =
    let r = c.args.self.now.rest.now in
    let at = c.args.self.now.at in
    let run = c.leading_spaces.ensures ∙ run_length is_space r in
    let empty = eqb-true (length c.ahead-start.result.rest.now) 0 (sym c.if-is_empty.ensures) in
    let none = none_left r _ _ run c.ahead-start.ensures.rest empty in
    let here = none_here r _ _ run c.ahead-start.ensures.rest empty in
    let moved : c.leading_spaces.result ≡ c.ahead-start.result.at - at = omega (arith, c.ahead-start.ensures.at) in
    record {
      word = no_word r _ _ run c.ahead-start.ensures.rest empty at;
      bytes = sym (ap first none);
      others = here ∙ sym (ap others none);
      rest = c.ahead-start.ensures.rest ∙ ap (λ (k : ℕ). drop k r) moved;
    }

pub returns : goal.returns
returns c =
    let r = c.args.self.now.rest.now in
    let at = c.args.self.now.at in
    let a = c.ahead-start.result.rest.now in
    let n = c.leading_spaces.result in
    let m = c.bytes_before-length.result in
    let run = c.leading_spaces.ensures ∙ run_length is_space r in
    let some = eqb-false (length a) 0 (sym c.if-is_empty.ensures) in
    let stop = c.bytes_before-length.ensures ∙ run_length (other 32) a in
    let cut = word_cut r a n run c.ahead-start.ensures.rest some m stop in
    let moved : n + m ≡ c.ahead.result.at - at = omega (arith, c.ahead-start.ensures.at, c.ahead.ensures.at) in
    record {
      word =
          ap (λ (s : Spelled). Some s) c.at.ensures.word
          ∙ ap (λ (w : List ℕ). Some (spelled_at w c.ahead-start.result.at)) c.split_at.ensures.front
          ∙ ap (λ (p : ℕ). Some (spelled_at (take m a) p)) c.ahead-start.ensures.at
          ∙ word_is r a n run c.ahead-start.ensures.rest some m stop at;
      bytes = ap (λ (w : List ℕ). Some w) (c.at.ensures.bytes ∙ c.split_at.ensures.front) ∙ sym (ap first cut);
      others = ap words c.ahead.ensures.rest ∙ sym (ap others cut);
      rest = c.ahead.ensures.rest ∙ ap (λ (l : List ℕ). drop m l) c.ahead-start.ensures.rest ∙ drop-drop m n r ∙ ap (λ (k : ℕ). drop k r) moved;
    }
