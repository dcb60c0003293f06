use Rattle.std.proofs.Common.{[], ◌∷◌, arith}
use Rattle.sha256_lanes.proofs.ShortTexts.{words_of}
use Rattle.sha256_lanes.proofs.ValueBytes.{value_of_words}
use Rattle.sha256_lanes.proofs.values.words_of.Goals as goal

pub returns-clause-value : goal.returns-clause-value
returns-clause-value c =
    rw (c.word_in.ensures, c.word_in-2.ensures, c.word_in-3.ensures, c.word_in-4.ensures, c.word_in-5.ensures, c.word_in-6.ensures, c.word_in-7.ensures, c.word_in-8.ensures)
    (value_of_words c.args.value.now (omega arith) (λ k. omega (arith, c.fits-value k)))

pub returns-clause-words : goal.returns-clause-words
returns-clause-words c = words_of (c.word_in.result ∷ c.word_in-2.result ∷ c.word_in-3.result ∷ c.word_in-4.result ∷ c.word_in-5.result ∷ c.word_in-6.result ∷ c.word_in-7.result ∷ c.word_in-8.result ∷ []) (c.word_in.type_inv, (c.word_in-2.type_inv, (c.word_in-3.type_inv, (c.word_in-4.type_inv, (c.word_in-5.type_inv, (c.word_in-6.type_inv, (c.word_in-7.type_inv, (c.word_in-8.type_inv, tt))))))))
