mod Usual
