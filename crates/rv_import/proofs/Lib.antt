-- Roots of two, the exact amplitudes of calls, and angles.
mod Roots
mod Laws
mod Tokens
mod Lexing
mod Parts
mod Found
mod Examples
mod TextExamples
