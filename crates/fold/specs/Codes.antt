-- SPECIFICATION 10.7: an answer's kind and number.
use Rattle.fold.specs.declared.answers.Code.{Code}
use Rattle.fold.specs.Answers.{Answer, kind_of, number_of}

abbrev pub coded : Answer → Code
coded answer = record { kind = kind_of answer; number = number_of answer }
