-- Letters are text.
use Rattle.std.proofs.Common.{rules, sym, subst}
use Rattle.std.specs.Str.{IsUtf8}
use Rattle.stun_judging.proofs.LetterLemmas.{letters_are_text}
use Rattle.stun_judging.proofs.letters.push_letters.Goals as goal

pub unwrap-requires : goal.unwrap-requires
unwrap-requires g c =
    let text : IsUtf8 c.to_letters-letters.result =
    subst IsUtf8 (sym c.to_letters-letters.ensures) (letters_are_text c.args.numbers.now) in
    search (rules, text)
